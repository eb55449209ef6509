-- A start on an idle chain opens a run, a slice of it is the machine's run, and slices one after another are one slice. Assumes nothing.
use Prim.Native.Nat.{ℕ}
use mathlib.Core.Path.{◌≡◌, refl, ap, sym, ◌∙◌}
use mathlib.Core.List.{List, [], ◌∷◌, ◌++◌, append_assoc}
use lib.Dec.{eqb}
use lib.ListN.{length}
use borrow.Author.Tests.{eqb-true, eqb-false}
use Rattle.chain.specs.declared.Chain.{Chain}
use Rattle.chain.specs.declared.Made.{Made}
use Rattle.chain.specs.Paper.{closed, writing, most_devices, done, more}
use Rattle.chain.specs.Bytes.{Bytes}
use Rattle.chain.specs.Set.{with_place}
use Rattle.chain.specs.State.{state_number, feed_number}
use Rattle.chain.proofs.ByCases.{by_test}
use Rattle.chain.proofs.Bytes.{bytes-front, bytes_rest}
use Rattle.machine.specs.Run.{Run, run, run_of}
use Rattle.machine.specs.Calls.{opened_place, fed_of}
use Rattle.machine.proofs.Feed.{run-append, run-over}
use Rattle.grammar.proofs.Runs.Keeps.{run_open}
use Rattle.machine.proofs.Runs.{run_lasts}
use Rattle.grammar.proofs.Runs.Slices.{slice_runs, fed-more}
use Rattle.grammar.proofs.StartOpens.{opened_sound, start-done}
use Rattle.demands.specs.Loader.{AfterSlice, Mode}
use Rattle.demands.specs.Demand2.{slices, joined}
use Rattle.demands.specs.Demand3.{load}
use Rattle.demands.specs.Ours.{ours}

-- a chain with its run begun, and a run as a slice leaves it
abbrev pub begun : Chain → ℕ → ℕ → Chain
begun c mode check = with_place c (opened_place mode check)

abbrev pub left : Run → AfterSlice
left r = record { fed = fed_of r; memory = r.memory }

pub slice_is : (c : Chain) (m ys : List ℕ) → feed_number c (length m) ≡ done → ours.slice c m ys ≡ left (run_of (run c m more) ys)
slice_is c m ys o =
    let r = slice_runs c m ys o in
    rw (r.0, r.1)

-- ---- a start

module _ (c : Chain) (m : List ℕ) (mode check : ℕ) (h : state_number c (length m) ≡ done) (k : Mode mode) where
  pub begun_feeds : feed_number (begun c mode check) (length m) ≡ done
  begun_feeds = opened_sound c (length m) mode check h k.least k.most

  pub started : c.place.running ≡ closed → ours.start c m mode check ≡ record { chain = begun c mode check; number = done }
  started z = start-done c (length m) mode check h z k.least k.most

-- a stream started afresh as a write
pub load_is : (c : Chain) (m : List ℕ) (mode : ℕ) → state_number c (length m) ≡ done → Mode mode → c.place.running ≡ closed
    → (bs : List ℕ) → load ours mode c m bs ≡ left (run_of (run (begun c mode writing) m more) bs)
load_is c m mode h k z bs =
    ap (λ (x : Made). ours.slice x.chain m bs) (started c m mode writing h k z) ∙ slice_is (begun c mode writing) m bs (begun_feeds c m mode writing h k)

-- ---- slices one after another

-- a run that is open after a and b was open after a
pub open_front : (a b : List ℕ) (r : Run) → (run_of r (a ++ b)).number ≡ more → (run_of r a).number ≡ more
open_front a b r h =
    by_test (eqb (run_of r a).number more) (λ e. eqb-true (run_of r a).number more e)
    (λ e.
    absurd
    (eqb-false (run_of r a).number more e
    (sym (ap (λ (x : Run). x.number) (run-append a b r ∙ run-over b (run_of r a) (eqb-false (run_of r a).number more e))) ∙ h)))

-- where the run is open before the last of them they are one
pub slices_join : (ps : List (List ℕ)) (c : Chain) (m last : List ℕ) → feed_number c (length m) ≡ done → length c.registers ≡ most_devices
    → Bytes (joined ps) → (run_of (run c m more) (joined ps)).number ≡ more → slices ours c m ps last ≡ ours.slice c m (joined ps ++ last)
slices_join [] c m last o e b h = refl
slices_join (p ∷ ps) c m last o e b h =
    let r = run_of (run c m more) p in
    let small = bytes-front p (joined ps) b in
    let f : r.number ≡ more = open_front p (joined ps) (run c m more) h in
    let on : (ys : List ℕ) → run_of (run c m more) (p ++ ys) ≡ run_of (run r.chain r.memory more) ys =
    λ ys. run-append p ys (run c m more) ∙ ap (λ (n : ℕ). run_of (run r.chain r.memory n) ys) f in
    let o2 : feed_number r.chain (length r.memory) ≡ done = run_open c m p small e o f in
    let j = slices_join ps r.chain r.memory last o2 ((run_lasts p (run c m more)).registers ∙ e) (bytes_rest p (joined ps) b)
    (ap (λ (x : Run). x.number) (sym (on (joined ps))) ∙ h) in
    let s : ours.slice c m p ≡ left r = slice_is c m p o in
    let d : (fed_of r).chain ≡ r.chain = fed-more r f in
    ap (λ (a : AfterSlice). slices ours a.fed.chain a.memory ps last) s
    ∙ ap (λ (x : Chain). slices ours x r.memory ps last) d
    ∙ j
    ∙ slice_is r.chain r.memory (joined ps ++ last) o2
    ∙ ap left (sym (on (joined ps ++ last)) ∙ ap (run_of (run c m more)) (sym (append_assoc p (joined ps) last)))
    ∙ sym (slice_is c m (p ++ joined ps ++ last) o)
