-- Bytes that end an open run at exactly their last one and change nothing: what that means, for one byte, and for bytes before others. Assumes nothing.
use Prim.Native.Nat.{ℕ, ◌+◌, ◌-◌, ◌<◌, ◌≤◌, ◌%◌, ◌^◌}
use mathlib.Core.Path.{◌≡◌, refl, ap, sym, ◌∙◌}
use mathlib.Core.List.{List, [], ◌∷◌, ◌++◌}
use native.Mathlib.Nat.{mod-add-mod}
use native.Mathlib.Omega.{arith}
use lib.Dec.{eqb, leb}
use lib.ListN.{length, take, drop, take-append-drop, length-append}
use lib.Seq.{take-append-le, take-append-add}
use borrow.Author.Tests.{ne_eqb, eqb-true, eqb-false, leb-true, leb-false}
use Rattle.chain.proofs.ByCases.{by_test}
use Rattle.chain.specs.declared.Chain.{Chain}
use Rattle.chain.specs.declared.Place.{Place}
use Rattle.chain.specs.Paper.{more}
use Rattle.chain.specs.Set.{with_place, closed_place}
use Rattle.awaited.specs.Byte.{number_of}
use Rattle.machine.specs.Run.{Run, run, ended, step_of, run_of}
use Rattle.machine.proofs.Feed.{run-append, run-over}

-- d is c some bytes later: count, kinds and registers as they were, n bytes more taken, no mismatch more
pub record Along (c d : Chain) (n : ℕ) : Type 0 where
  pub chain : with_place d closed_place ≡ with_place c closed_place
  pub taken : d.place.taken ≡ (c.place.taken + n) % 2 ^ 32
  pub mismatches : d.place.mismatches ≡ (c.place.mismatches + 0) % 2 ^ 32

-- fed with bs, the open run of c ends at exactly their last byte, with the number n, and no cell and no register changes
pub record Ends (c : Chain) (m bs : List ℕ) (n : ℕ) : Type 0 where
  pub last : Chain
  pub is : run_of (run c m more) bs ≡ run last m n
  pub along : Along c last (length bs)
  pub late : (k : ℕ) → k < length bs → (run_of (run c m more) (take k bs)).number ≡ more

along_add : (c d e : Chain) (k n : ℕ) → Along c d k → Along d e n → Along c e (k + n)
along_add c d e k n f g =
    let t : c.place.taken + (k + n) ≡ c.place.taken + k + n = omega arith in
    let z : c.place.mismatches + 0 + 0 ≡ c.place.mismatches + 0 = omega arith in
    record {
      chain = g.chain ∙ f.chain;
      taken = g.taken ∙ rw (f.taken, mod-add-mod (c.place.taken + k) (2 ^ 32) n, t);
      mismatches = g.mismatches ∙ rw (f.mismatches, mod-add-mod (c.place.mismatches + 0) (2 ^ 32) 0, z);
    }

-- a run that is open after some bytes was open before them
open_before : (xs ys : List ℕ) (r : Run) → (run_of r (xs ++ ys)).number ≡ more → (run_of r xs).number ≡ more
open_before xs ys r h =
    by_test (eqb (run_of r xs).number more) (λ e. eqb-true (run_of r xs).number more e)
    (λ e.
    ap (λ (q : Run). q.number) (sym (run-append xs ys r ∙ run-over ys (run_of r xs) (eqb-false (run_of r xs).number more e))) ∙ h)

module _ (c : Chain) (m : List ℕ) (n : ℕ) where
  -- the last byte
  pub ends_last : (b : ℕ) → number_of c b ≡ n → (n ≡ more → ⊥) → Ends c m (b ∷ []) n
  unfolding run_of step_of
  ends_last b e h =
      record {
        last = ended c;
        is = rw (e, ne_eqb n more h);
        along = record { chain = refl; taken = refl; mismatches = refl };
        late = λ k l. first k (omega arith);
      }
    where
      first : (k : ℕ) → k ≡ 0 → (run_of (run c m more) (take k (b ∷ []))).number ≡ more
      first k z = rw z

  -- bytes after which the run is still open
  pub ends-after : (d : Chain) (xs bs : List ℕ) → run_of (run c m more) xs ≡ run d m more → Along c d (length xs) → Ends d m bs n → Ends c m (xs ++ bs) n
  ends-after d xs bs e a h =
      record {
        last = h.last;
        is = run-append xs bs (run c m more) ∙ ap (λ (r : Run). run_of r bs) e ∙ h.is;
        along = rw (length-append xs bs) (along_add c d h.last (length xs) (length bs) a h.along);
        late = λ k l. by_test (leb k (length xs)) (λ q. early k (leb-true k (length xs) q)) (λ q. within k l (leb-false k (length xs) q));
      }
    where
      early : (k : ℕ) → k ≤ length xs → (run_of (run c m more) (take k (xs ++ bs))).number ≡ more
      early k l =
          rw (take-append-le k xs bs l)
          (open_before (take k xs) (drop k xs) (run c m more) (rw (take-append-drop k xs, e)))

      within : (k : ℕ) → k < length (xs ++ bs) → length xs < k → (run_of (run c m more) (take k (xs ++ bs))).number ≡ more
      within k l q =
          let z : k ≡ length xs + (k - length xs) = omega arith in
          rw (z, take-append-add xs bs (k - length xs), run-append xs (take (k - length xs) bs) (run c m more), e)
          (h.late (k - length xs) (omega (arith, length-append xs bs)))

  pub ends_step : (q : Place) (b : ℕ) (bs : List ℕ) → step_of c m b ≡ run (with_place c q) m more
      → q.taken ≡ (c.place.taken + 1) % 2 ^ 32 → q.mismatches ≡ (c.place.mismatches + 0) % 2 ^ 32
      → Ends (with_place c q) m bs n → Ends c m (b ∷ bs) n
  unfolding run_of
  ends_step q b bs e t k h = ends-after (with_place c q) (b ∷ []) bs e (record { chain = refl; taken = t; mismatches = k }) h
