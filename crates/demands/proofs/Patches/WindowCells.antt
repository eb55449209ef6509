-- A cell in no window of a section keeps its value; so windows that share no cell may change places. The machine is not mentioned. Assumes nothing.
use Prim.Native.Nat.{ℕ, ◌+◌}
use mathlib.Core.Logic.{◌⊎◌, inl, inr, ⊎_elim}
use mathlib.Core.Path.{◌≡◌, refl, ap, sym, ◌∙◌}
use mathlib.Core.List.{List, [], ◌∷◌}
use native.Mathlib.Omega.{arith}
use lib.Dec.{ltb}
use borrow.Author.Tests.{ltb-true, ltb-false}
use Rattle.chain.proofs.ByCases.{by_test}
use Rattle.grammar.specs.Sent.{memory, last_to}
use Rattle.grammar.specs.Stream.{Window, data_sent, windows_sent}
use Rattle.grammar.specs.Fits.{Fits, AllFit}
use Rattle.grammar.proofs.WindowCells.{last_append, data_keeps}
use Rattle.demands.specs.Patches.{In, InSome, NoneShared}

-- a window has a cell, or leaves it as it was
window_keeps : (size : ℕ) (w : Window) (i : ℕ) → Fits size w → In i w ⊎ ((old : ℕ) → last_to memory (data_sent (0 + w.start) w.bytes) i old ≡ old)
window_keeps size w i f =
    by_test (ltb i w.start)
    (λ e. inr (λ old. data_keeps (0 + w.start) w.bytes i old (λ p q. omega (arith, ltb-true i w.start e))))
    (λ e.
    by_test (ltb w.end i)
    (λ g. inr (λ old. data_keeps (0 + w.start) w.bytes i old (λ p q. omega (arith, f.order, f.full, ltb-true w.end i g))))
    (λ g. inl (omega (arith, ltb-false i w.start e), omega (arith, ltb-false w.end i g))))

-- so do windows
pub windows_keep : (size : ℕ) (ws : List Window) (i : ℕ) → AllFit size ws → InSome i ws ⊎ ((old : ℕ) → last_to memory (windows_sent 0 ws) i old ≡ old)
windows_keep size [] i f = inr (λ old. refl)
windows_keep size (w ∷ ws) i f =
    ⊎_elim (λ h. inl (inl h))
    (λ k.
    ⊎_elim (λ h. inl (inr h))
    (λ ks.
    inr
    (λ old.
    last_append memory (data_sent (0 + w.start) w.bytes) (windows_sent 0 ws) i old
    ∙ ks (last_to memory (data_sent (0 + w.start) w.bytes) i old)
    ∙ k old))
    (windows_keep size ws i f.1))
    (window_keeps size w i f.0)

-- windows that share no cell may change places
pub swapped : (size : ℕ) (vs ws : List Window) → AllFit size vs → AllFit size ws → NoneShared vs ws → (i old : ℕ)
    → last_to memory (windows_sent 0 ws) i (last_to memory (windows_sent 0 vs) i old) ≡ last_to memory (windows_sent 0 vs) i (last_to memory (windows_sent 0 ws) i old)
swapped size vs ws f g none i old =
    let v : ℕ → ℕ = last_to memory (windows_sent 0 vs) i in
    let w : ℕ → ℕ = last_to memory (windows_sent 0 ws) i in
    ⊎_elim
    (λ h.
    ⊎_elim (λ q. absurd (none i h q)) (λ k. k (v old) ∙ ap v (sym (k old))) (windows_keep size ws i g))
    (λ k. ap w (k old) ∙ sym (k (w old)))
    (windows_keep size vs i f)
