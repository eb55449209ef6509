-- What a refusal leaves, call by call: everything as lent; of a byte that ends a run, its cells and registers as they were. Assumes nothing.
use Prim.Native.Nat.{ℕ, suc, ◌%◌, ◌^◌, ◌<◌}
use mathlib.Core.Logic.{◌≢◌}
use mathlib.Core.Path.{◌≡◌, sym, ap, ◌∙◌}
use mathlib.Core.List.{List, [], ◌∷◌}
use native.Mathlib.Nat.{add-zero}
use borrow.Author.Tests.{eq-eqb, ne_eqb}
use lib.ListN.{length, get_or, take, drop, take-append-drop}
use lib.Seq.{take-suc}
use Rattle.chain.specs.declared.Chain.{Chain}
use Rattle.chain.specs.Paper.{most_devices, done, more}
use Rattle.chain.specs.Set.{with_place, closed_place}
use Rattle.chain.specs.State.{open_number, feed_number}
use Rattle.chain.specs.Calls.{no_chain, chain_number, new_of, reset_of, reset_memory}
use Rattle.chain.specs.Output.{NothingWritten}
use Rattle.chain.specs.Table.{Running}
use Rattle.chain.proofs.Output.{nothing_written, refused-zero}
use Rattle.chain.proofs.Table.{feed_takes}
use Rattle.machine.specs.declared.Fed.{Fed}
use Rattle.awaited.specs.Byte.{number_of}
use Rattle.machine.specs.Run.{Run, run, ended, run_of}
use Rattle.machine.specs.Calls.{start_number, start_of, fed_of, slice_of, slice_memory, drop_of}
use Rattle.machine.proofs.Feed.{run-append, run-over}
use Rattle.machine.proofs.Runs.{run-ended}
use Rattle.grammar.proofs.Runs.Slices.{slice_runs, slice_refused as refused, fed-more, fed-over, slice_number_lem, more_feeds, slice_open}
use Rattle.saved.specs.Layout.{saved_bytes}
use Rattle.saved.specs.Calls.{save_number, save_of, save_output, pick_up_number, pick_up_of}
use Rattle.closing.specs.Closing.{closing_bytes}
use Rattle.closing.specs.Calls.{written_number, closing_of, closing_output}
use Rattle.hunt.specs.Bits.{left_from}
use Rattle.hunt.specs.Hunt.{found_at, hunted_bytes, hunt_number, hunt_of, hunt_out}
use Rattle.writer.specs.Stream.{stream_of}
use Rattle.writer.specs.Write.{write_number, write_of, write_output}
use Rattle.chain.specs.Bytes.{Bytes}
use Rattle.demands.specs.ByteTable.{slice_number}
use Rattle.demands.specs.Demand1.{AsLent, Ended, EndedAt, ByteEnded, HuntRefused}
use Rattle.demands.proofs.Numbers.ByteTables.{run-one}
use Rattle.demands.proofs.Numbers.SliceTables.{at_byte}

-- ---- calls that hand a state back

-- a refused new state is all zero
pub new_refused : (count : ℕ) (kinds m : List ℕ) → (new_of count kinds (length m)).number ≢ done → (new_of count kinds (length m)).chain ≡ no_chain
unfolding new_of
new_refused count kinds m h = rw (ne_eqb (chain_number count kinds (length m)) done h)

pub reset_refused : (c : Chain) (m : List ℕ) → (reset_of c (length m)).number ≢ done → ((reset_of c (length m)).chain ≡ c) × (reset_memory c m ≡ m)
unfolding reset_of reset_memory
reset_refused c m h =
    let e = ne_eqb (chain_number c.count c.kinds (length m)) done h in
    (rw e, rw e)

pub start-refused : (c : Chain) (m : List ℕ) (mode check : ℕ) → (start_of c (length m) mode check).number ≢ done → (start_of c (length m) mode check).chain ≡ c
unfolding start_of
start-refused c m mode check h = rw (ne_eqb (start_number c (length m) mode) done h)

pub drop-refused : (c : Chain) (m : List ℕ) → (drop_of c (length m)).number ≢ done → (drop_of c (length m)).chain ≡ c
unfolding drop_of
drop-refused c m h = rw (ne_eqb (open_number c (length m)) done h)

pub drop-done : (c : Chain) (m : List ℕ) → (drop_of c (length m)).number ≡ done → (drop_of c (length m)).chain ≡ with_place c closed_place
unfolding drop_of
drop-done c m h = rw (eq-eqb (open_number c (length m)) done h)

pub pick-up-refused : (c : Chain) (m s : List ℕ) → (pick_up_of c (length m) s).number ≢ done → (pick_up_of c (length m) s).chain ≡ c
unfolding pick_up_of
pick-up-refused c m s h = rw (ne_eqb (pick_up_number c (length m) s) done h)

-- ---- calls that write an output

pub save_refused : (c : Chain) (m out : List ℕ) → (save_of c (length m) (length out)).number ≢ done
    → NothingWritten (save_of c (length m) (length out)).length out (save_output c (length m) out)
save_refused c m out = nothing_written (save_number c (length m) (length out)) (saved_bytes c.registers c.place) out

pub closing-refused : (c : Chain) (m out : List ℕ) → (closing_of c m (length out)).number ≢ done
    → NothingWritten (closing_of c m (length out)).length out (closing_output c m out)
closing-refused c m out = nothing_written (written_number c m (length out)) (closing_bytes c m) out

pub hunt_refused : (s out : List ℕ) → (hunt_of s (length out)).number ≢ done → HuntRefused out (hunt_of s (length out)) (hunt_out s out)
unfolding hunt_of hunt_out
hunt_refused s out z =
    record {
      p = refused-zero (hunt_number s (length out)) (found_at s) z;
      left = refused-zero (hunt_number s (length out)) (left_from s (found_at s)) z;
      nothing = nothing_written (hunt_number s (length out)) (hunted_bytes s) out z;
    }

pub write_refused : (kind mode control : ℕ) (address starts ends bytes out : List ℕ)
    → (write_of kind mode control address starts ends bytes (length out)).number ≢ done
    → NothingWritten (write_of kind mode control address starts ends bytes (length out)).length out (write_output kind mode control address starts ends bytes out)
write_refused kind mode control address starts ends bytes out =
    nothing_written (write_number kind mode control address starts ends bytes (length out)) (stream_of mode control address starts ends bytes) out

-- ---- byte and slice

-- 1, 17 or 4
pub slice_refused : (c : Chain) (m s : List ℕ) → (Running c m → ⊥) → AsLent c m s
slice_refused c m s h =
    let r = refused c m s (λ e. h ((feed_takes c m).0 e)) in
    record {
      chain = ap (λ (f : Fed). f.chain) r.0;
      taken = ap (λ (f : Fed). f.answer.taken) r.0;
      mismatches = ap (λ (f : Fed). f.answer.mismatches) r.0;
      memory = r.1;
    }

-- a run that was r and is over by the next byte
ended_by : (c : Chain) (m s : List ℕ) (d : Chain) (k : List ℕ) (n : ℕ) → feed_number c (length m) ≡ done
    → run_of (run c m more) s ≡ run (ended d) k n → n ≢ more → Ended d k d.place.taken d.place.mismatches (slice_of c m s) (slice_memory c m s)
unfolding fed_of
ended_by c m s d k n z e h =
    let r = slice_runs c m s z in
    let f = r.0 ∙ ap fed_of e in
    record {
      chain = ap (λ (x : Fed). x.chain) f ∙ fed-over (run (ended d) k n) h;
      memory = r.1 ∙ ap (λ (x : Run). x.memory) e;
      taken_one_more = ap (λ (x : Fed). x.answer.taken) f;
      mismatches_kept = ap (λ (x : Fed). x.answer.mismatches) f ∙ ap (λ (x : ℕ). x % 2 ^ 32) (add-zero d.place.mismatches);
    }

pub byte-ended : (c : Chain) (m : List ℕ) (b : ℕ) → Running c m → slice_number c m (b ∷ []) ≢ more → ByteEnded c m b
byte-ended c m b k n =
    let z = (feed_takes c m).1 k in
    let ends : number_of c b ≢ more = λ e. n (slice_number_lem c m (b ∷ []) z ∙ run-one c m b ∙ e) in
    ended_by c m (b ∷ []) c m (number_of c b) z (run-ended c m b [] ends) ends

module _ (c : Chain) (m s : List ℕ) (k : ℕ) (l : k < length s) (h : slice_number c m (take k s) ≡ more) (n : slice_number c m (take (suc k) s) ≢ more) where
  abbrev before : Run
  before = run_of (run c m more) (take k s)

  z : feed_number c (length m) ≡ done
  z = more_feeds c m (take k s) h

  still : before.number ≡ more
  still = sym (slice_number_lem c m (take k s) z) ∙ h

  abbrev number : ℕ
  number = number_of before.chain (get_or s k 0)

  fed-before : (slice_of c m (take k s)).chain ≡ before.chain
  fed-before = ap (λ (f : Fed). f.chain) (slice_runs c m (take k s) z).0 ∙ fed-more before still

  ends : number ≢ more
  ends e = n (at_byte c m s z k l h ∙ ap (λ (x : Chain). number_of x (get_or s k 0)) fed-before ∙ e)

  whole : run_of (run c m more) s ≡ run (ended before.chain) before.memory number
  whole =
      ap (λ (x : List ℕ). run_of (run c m more) x) (sym (take-append-drop (suc k) s))
      ∙ run-append (take (suc k) s) (drop (suc k) s) (run c m more)
      ∙ run-over (drop (suc k) s) (run_of (run c m more) (take (suc k) s)) (λ e. n (slice_number_lem c m (take (suc k) s) z ∙ e))
      ∙ ap (λ (x : List ℕ). run_of (run c m more) x) (take-suc s k 0 l)
      ∙ run-append (take k s) (get_or s k 0 ∷ []) (run c m more)
      ∙ ap (λ (i : ℕ). run_of (run before.chain before.memory i) (get_or s k 0 ∷ [])) still
      ∙ run-ended before.chain before.memory (get_or s k 0) [] ends

  pub slice_ended : EndedAt c m s k
  unfolding fed_of
  slice_ended =
      let r = slice_runs c m (take k s) z in
      rw (fed-before, r.0, r.1) (ended_by c m s before.chain before.memory number z whole ends)

-- ---- 16 leaves the run open, and the state takes the next byte

pub more_open : (c : Chain) (m s : List ℕ) → Bytes s → length c.registers ≡ most_devices → slice_number c m s ≡ more
    → Running (slice_of c m s).chain (slice_memory c m s)
more_open c m s small eight h = (feed_takes (slice_of c m s).chain (slice_memory c m s)).0 (slice_open c m s small eight h)
