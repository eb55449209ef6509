-- A run over a slice: in two parts, past its end, and from byte i on. Assumes nothing.
use Rattle.std.proofs.Common.{◌≡◌, ℕ, ◌+◌, ◌-◌, ◌<◌, ◌≤◌, Bool, true, false, eqb, List, [], ◌∷◌, ◌++◌, length, get_or, take, drop, sym, refl, ap, ◌∙◌, add-one, arith, length-drop, take-append-drop, drop_of_length-le, take_all, drop-cons, drop-drop, ne_eqb}
use borrow.Author.Tests.{eqb-false}
use Rattle.chain.specs.declared.Chain.{Chain}
use Rattle.chain.specs.Paper.{more}
use Rattle.chain.specs.Rules.{pick}
use Rattle.machine.specs.Run.{Run, run, step_of, on_byte, run_of}

-- feeding a and b is feeding a and then, where the run is open, b
pub run-append : (a b : List ℕ) (r : Run) → run_of r (a ++ b) ≡ run_of (run_of r a) b
unfolding run_of
run-append [] b r = refl
run-append (x ∷ a) b r = run-append a b (on_byte r x)

-- a run that is over stays as it is
pub run-over : (bs : List ℕ) (r : Run) → (r.number ≡ more → ⊥) → run_of r bs ≡ r
unfolding run_of
run-over [] r h = refl
run-over (b ∷ bs) r h = rw (ne_eqb r.number more h) (run-over bs r h)

-- its first byte: looked at where the run is open, not looked at where it is over
module _ (r : Run) (b : ℕ) (bs : List ℕ) where
  pub first_on : eqb r.number more ≡ true → run_of r (b ∷ bs) ≡ run_of (step_of r.chain r.memory b) bs
  unfolding run_of
  first_on e = ap (λ (q : Bool). run_of (pick q (step_of r.chain r.memory b) r) bs) e

  pub first_off : eqb r.number more ≡ false → run_of r (b ∷ bs) ≡ r
  first_off e = run-over (b ∷ bs) r (eqb-false r.number more e)

-- k bytes further, as a lent front has them
pub run-front : (c : Chain) (m s : List ℕ) (k : ℕ) (r : Run) → run_of (run c m more) (take k s) ≡ r → run_of (run c m more) s ≡ run_of r (drop k s)
run-front c m s k r e =
    ap (λ (x : List ℕ). run_of (run c m more) x) (sym (take-append-drop k s))
    ∙ run-append (take k s) (drop k s) (run c m more)
    ∙ ap (λ (x : Run). run_of x (drop k s)) e

-- what is lent from byte i on is the rest; from 0 on, the slice itself
pub lent-rest : (s : List ℕ) (i : ℕ) → take (length s - i) (drop i s) ≡ drop i s
lent-rest s i = take_all (length s - i) (drop i s) (omega (arith, length-drop i s))

module _ (c : Chain) (m s : List ℕ) (i : ℕ) where
  pub run_at : i < length s → run_of (run c m more) (drop i s) ≡ run_of (step_of c m (get_or s i 0)) (drop (i + 1) s)
  unfolding run_of
  run_at h = rw (add-one, drop-cons s i 0 h)

  pub run_end : length s ≤ i → run_of (run c m more) (drop i s) ≡ run c m more
  unfolding run_of
  run_end h = rw (drop_of_length-le s h)

  -- k bytes further, as a lent part has them
  pub run_part : (k : ℕ) (r : Run) → run_of (run c m more) (take (i + k - i) (drop i s)) ≡ r → run_of (run c m more) (drop i s) ≡ run_of r (drop (i + k) s)
  run_part k r e =
      let z : i + k - i ≡ k = omega arith in
      let f : run_of (run c m more) (take k (drop i s)) ≡ r = rw z at e in
      run-front c m (drop i s) k r f ∙ ap (run_of r) (drop-drop k i s)
