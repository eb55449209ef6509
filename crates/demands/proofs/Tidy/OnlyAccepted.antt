-- Whatever is tidied begins with an accepted stream: its number is the machine's, on one device freshly reset, and what that accepts has a reading.
-- Assumes nothing.
use Prim.Native.Nat.{ℕ, ◌<◌}
use mathlib.Core.Path.{◌≡◌, refl, ap, sym, ◌∙◌}
use mathlib.Core.List.{List, [], ◌∷◌}
use native.Mathlib.Omega.{arith}
use borrow.Author.Tests.{eqb-true, ne_eqb}
use lib.Dec.{eqb}
use lib.ListN.{length, get_or, take, replicate, length-replicate}
use Rattle.chain.specs.declared.Chain.{Chain}
use Rattle.chain.specs.declared.Written.{Written}
use Rattle.chain.specs.Paper.{writing, first_mode, done}
use Rattle.chain.specs.Kinds.{size_of}
use Rattle.chain.specs.Bytes.{Bytes}
use Rattle.chain.specs.State.{state_number}
use Rattle.chain.specs.Calls.{first_only, fresh_chain}
use Rattle.chain.proofs.ByCases.{by_test}
use Rattle.chain.proofs.Bytes.{bytes_take}
use Rattle.machine.specs.Calls.{start_of, slice_of}
use Rattle.reader.specs.Stream.{stream_stop}
use Rattle.grammar.specs.Fits.{Reading}
use Rattle.tidy.specs.Tidy.{tidy_number}
use Rattle.demands.specs.Loader.{Loader, Idle}
use Rattle.demands.specs.Demand2.{ran}
use Rattle.demands.specs.ListTable.{own_number}
use Rattle.demands.specs.Ours.{ours}
use Rattle.demands.specs.Patches.{Device}
use Rattle.demands.specs.OneFile.{KeepsTidy, Accepted, TidiesOnly}
use Rattle.demands.proofs.Loads.StreamA.{zeros-bytes, mode-one}
use Rattle.demands.proofs.Loads.AcceptedFits.{second_e}
use Rattle.demands.proofs.Numbers.ListTables.{good_chain, new_is, kinds_kept, fresh-formed, own-stream}
use Rattle.demands.proofs.Files.AcceptedAgain.{first_known}
use Rattle.demands.proofs.Patches.PatchLoads.{read_fits, read-stream}

-- ---- a number 0

tidied-stop : (kind : ℕ) (s : List ℕ) (room : ℕ) → (size_of kind ≡ 0 → ⊥) → tidy_number kind s room ≡ done
    → (stream_stop (size_of kind) first_mode s).number ≡ done
unfolding tidy_number
tidied-stop kind s room known z =
    let n : ℕ = (stream_stop (size_of kind) first_mode s).number in
    by_test (eqb n done) (λ e. eqb-true n done e) (λ e. rw (ne_eqb (size_of kind) 0 known, e) at z)

-- ---- the machine, on one device freshly reset

module _ (kind : ℕ) (known : size_of kind ≡ 0 → ⊥) where
  abbrev fresh : Chain
  fresh = fresh_chain 1 (kind ∷ replicate 7 0)

  abbrev zeros : List ℕ
  zeros = replicate (size_of kind) 0

  pub idle-fresh : Idle fresh zeros
  unfolding state_number
  idle-fresh =
      record {
        kinds = ap length (kinds_kept kind known);
        registers = refl;
        register_bytes = zeros-bytes 8;
        memory_bytes = zeros-bytes (size_of kind);
        sound = rw (fresh-formed kind known, kinds_kept kind known, length-replicate {A = ℕ} (size_of kind) 0, good_chain kind known);
        is_closed = refl;
      }

  own-ran : (s : List ℕ) → own_number kind first_mode s ≡ (ran ours writing first_mode fresh zeros [] s).fed.answer.number
  own-ran s =
      ap (λ (c : Chain). (slice_of (start_of c (size_of kind) first_mode writing).chain zeros s).answer.number) (new_is kind known)
      ∙ ap (λ (n : ℕ). (slice_of (start_of fresh n first_mode writing).chain zeros s).answer.number) (sym (length-replicate (size_of kind) 0))

  front : (s : List ℕ) → Bytes s → (stream_stop (size_of kind) first_mode s).number ≡ done → (n : ℕ) × Reading fresh first_mode (take n s)
  front s u z =
      let a = (ran ours writing first_mode fresh zeros [] s).fed.answer in
      let e : a.number ≡ done = sym (own-ran s) ∙ sym (own-stream kind first_mode s u known refl) ∙ z in
      (a.taken, (second_e fresh zeros writing first_mode [] s idle-fresh mode-one u e).reading)

-- a reading there is one in every chain whose first device is of that kind
moved : (kind : ℕ) (c : Chain) (s : List ℕ) → 0 < c.count → get_or c.kinds 0 0 ≡ kind
    → Reading (fresh_chain 1 (kind ∷ replicate 7 0)) first_mode s → Reading c first_mode s
unfolding first_only
moved kind c s some e r =
    let f = fresh_chain 1 (kind ∷ replicate 7 0) in
    record {
      first = r.first;
      others = [];
      fits = (some, rw e (read_fits f refl first_mode s r));
      bytes = read-stream f refl first_mode s r c;
    }

-- a stream whose number is 0 begins with an accepted one
pub begins-accepted : (c : Chain) (m s : List ℕ) → Device c m → Bytes s → (stream_stop (size_of (get_or c.kinds 0 0)) first_mode s).number ≡ done
    → (n : ℕ) × Accepted c (take n s)
begins-accepted c m s d u z =
    let kind : ℕ = get_or c.kinds 0 0 in
    let r = front kind (first_known c m d.idle) s u z in
    (r.0, record { bytes = bytes_take r.0 s u; reading = moved kind c (take r.0 s) (omega (arith, d.one)) refl r.1 })

pub tidies_only : (l : Loader) → KeepsTidy l → TidiesOnly l
tidies_only l keeps c m bs out d u z =
    let kind : ℕ = get_or c.kinds 0 0 in
    let known = first_known c m d.idle in
    let n : tidy_number kind bs (length out) ≡ done = sym (ap (λ (r : Written). r.number) (keeps kind bs out).answer) ∙ z in
    begins-accepted c m bs d u (tidied-stop kind bs (length out) known n)

-- ---- ours keeps its promise

pub tidy_kept : KeepsTidy ours
tidy_kept kind s out = record { answer = refl; output = refl }
