-- What windows that fit leave in a cell: the byte of the last one that has it, or its old value. The machine is not mentioned. Assumes nothing.
use Prim.Native.Nat.{ℕ, suc, ◌+◌, ◌-◌, ◌≤◌, ◌<◌}
use mathlib.Core.Bool.{Bool, true, false, ◌||◌}
use mathlib.Core.Path.{◌≡◌, refl, sym, ap, ◌∙◌}
use mathlib.Core.Logic.{⊎_elim}
use mathlib.Core.List.{List, [], ◌∷◌}
use native.Mathlib.Omega.{arith}
use borrow.Author.Tests.{eq-eqb, ne_eqb}
use lib.ListN.{length, get_or}
use lib.Seq.{take_all}
use Rattle.chain.proofs.ByCases.{by_test, by_eq}
use Rattle.chain.specs.Rules.{pick}
use Rattle.chain.specs.Window.{width_of}
use Rattle.grammar.specs.Sent.{memory, last_to}
use Rattle.grammar.specs.Stream.{Window, data_sent, windows_sent}
use Rattle.grammar.specs.Fits.{Fits, AllFit}
use Rattle.grammar.proofs.WindowCells.{last_append, data_keeps}
use Rattle.tidy.specs.Spans.{has, covered, values_of}
use Rattle.tidy.specs.Tidy.{last_byte}
use Rattle.tidy.proofs.HasCell.{has_true, has_false, has_above}
use Rattle.tidy.proofs.Values.{values-bytes}

-- ---- one window

-- a cell that a data byte is meant for
data_in : (a : ℕ) (bs : List ℕ) (i old : ℕ) → a ≤ i → i < a + length bs → last_to memory (data_sent a bs) i old ≡ get_or bs (i - a) 0
data_in a [] i old h g = absurd (omega arith)
data_in a (b ∷ bs) i old h g =
    let then : Bool → ℕ = λ k. last_to memory (data_sent (suc a) bs) i (pick k b old) in
    by_eq i a
    (λ e.
    let z : i - a ≡ 0 = omega arith in
    ap then (eq-eqb i a e) ∙ data_keeps (suc a) bs i b (λ p q. omega arith) ∙ rw z)
    (λ n.
    let k : suc a ≤ i = further a i h n in
    let z : i - a ≡ suc (i - suc a) = omega arith in
    ap then (ne_eqb i a n) ∙ data_in (suc a) bs i old k (omega arith) ∙ rw z)
  where
    further : (a i : ℕ) → a ≤ i → (i ≡ a → ⊥) → suc a ≤ i
    further a i h n = omega (arith, n)

-- the byte that a window has for cell i
abbrev pub byte_for : Window → ℕ → ℕ
byte_for w i = get_or w.bytes (i - w.start) 0

pub window_last : (size : ℕ) (w : Window) (i old : ℕ) → Fits size w
    → last_to memory (data_sent (0 + w.start) w.bytes) i old ≡ pick (has w.start w.end i) (byte_for w i) old
window_last size w i old f =
    let z : 0 + w.start ≡ w.start = omega arith in
    rw z
    (by_test (has w.start w.end i)
    (λ e.
    let h = has_true w.start w.end i e in
    rw e (data_in w.start w.bytes i old h.0 (omega (arith, h.0, h.1, f.order, f.full))))
    (λ e.
    rw e
    (data_keeps w.start w.bytes i old
    (λ p q. ⊎_elim (λ h. omega arith) (λ h. omega (arith, f.order, f.full)) (has_false w.start w.end i e)))))

-- its bytes as the values of its cells
pub window-values : (size : ℕ) (w : Window) (v : ℕ → ℕ) → Fits size w → ((i : ℕ) → w.start ≤ i → i ≤ w.end → v i ≡ byte_for w i)
    → values_of v (width_of w.start w.end) w.start ≡ w.bytes
window-values size w v f e =
    let n : ℕ = width_of w.start w.end in
    let k : length w.bytes ≡ n = f.full ∙ omega arith in
    sym (values-bytes w.bytes n 0 v w.start (omega arith)
    (λ j h.
    let z : w.start + j - w.start ≡ 0 + j = omega arith in
    e (w.start + j) (omega arith) (omega (arith, f.order)) ∙ ap (λ (q : ℕ). get_or w.bytes q 0) z))
    ∙ take_all n w.bytes (omega arith)

-- ---- windows one after another

pub windows-more : (size : ℕ) (w : Window) (ws : List Window) (i old : ℕ) → Fits size w
    → last_to memory (windows_sent 0 (w ∷ ws)) i old ≡ last_to memory (windows_sent 0 ws) i (pick (has w.start w.end i) (byte_for w i) old)
windows-more size w ws i old f =
    last_append memory (data_sent (0 + w.start) w.bytes) (windows_sent 0 ws) i old
    ∙ ap (last_to memory (windows_sent 0 ws) i) (window_last size w i old f)

-- the old value counts only where no window has the cell
pub windows_last : (size : ℕ) (ws : List Window) (i old : ℕ) → AllFit size ws
    → last_to memory (windows_sent 0 ws) i old ≡ pick (covered ws i) (last_byte ws i) old
unfolding covered
windows_last size [] i old f = refl
windows_last size (w ∷ ws) i old f =
    let h : Bool = has w.start w.end i in
    let b : ℕ = byte_for w i in
    let k : Bool = covered ws i in
    let l : ℕ = last_byte ws i in
    let one : (o : ℕ) → last_to memory (windows_sent 0 (w ∷ ws)) i o ≡ pick k l (pick h b o) =
    λ o. windows-more size w ws i o f.0 ∙ windows_last size ws i (pick h b o) f.1 in
    one old ∙ turn h k b l old ∙ ap (λ (x : ℕ). pick (h || k) x old) (sym (one 0))
  where
    turn : (h k : Bool) (b l old : ℕ) → pick k l (pick h b old) ≡ pick (h || k) (pick k l (pick h b 0)) old
    turn true true b l old = refl
    turn true false b l old = refl
    turn false true b l old = refl
    turn false false b l old = refl

-- no window that fits has a cell beyond the device
pub covered-inside : (size : ℕ) (ws : List Window) (i : ℕ) → AllFit size ws → size ≤ i → covered ws i ≡ false
unfolding covered
covered-inside size [] i f h = refl
covered-inside size (w ∷ ws) i f h =
    rw (has_above w.start w.end i (omega (arith, f.0.inside)), covered-inside size ws i f.1 h)
