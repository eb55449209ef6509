-- The tidied windows are told by what the given ones leave: windows that leave the same in every cell, whatever was there, are tidied to the same.
-- Two old values, 0 and 1, tell. The machine is not mentioned. Assumes nothing.
use Prim.Native.Nat.{ℕ, ◌+◌, ◌<◌}
use mathlib.Core.Bool.{Bool, true, false}
use mathlib.Core.Path.{◌≡◌, refl, sym, ap, ◌∙◌}
use mathlib.Core.List.{List, [], ◌∷◌, map}
use native.Mathlib.Omega.{arith}
use Rattle.chain.specs.Rules.{pick}
use Rattle.chain.specs.Window.{width_of}
use Rattle.grammar.specs.Sent.{memory, last_to}
use Rattle.grammar.specs.Stream.{Window, windows_sent}
use Rattle.grammar.specs.Fits.{AllFit}
use Rattle.grammar.specs.Tables.{nulled}
use Rattle.grammar.proofs.WindowCells.{null_bytes}
use Rattle.tidy.specs.Spans.{Span, covered}
use Rattle.tidy.specs.Steps.{Spaced, Below}
use Rattle.tidy.specs.Tidy.{last_byte, window_over, tidy_windows}
use Rattle.tidy.proofs.Values.{values_same}
use Rattle.tidy.proofs.Canon.{spans_same}
use Rattle.tidy.proofs.WindowEffect.{windows_last}
use Rattle.tidy.proofs.TidyWindows.{tidy_spans, tidy_spaced, tidy_below}

-- ---- the same cells and last bytes

over-same : (u v : ℕ → ℕ) (size l : ℕ) (xs : List Span) → Spaced l xs → Below size xs → ((i : ℕ) → i < size → u i ≡ v i)
    → map (window_over u) xs ≡ map (window_over v) xs
over-same u v size l [] s b h = refl
over-same u v size l (x ∷ xs) s b h =
    rw (
      values_same u v (width_of x.start x.end) x.start (λ i f g. h i (omega (arith, s.1, b.0))),
      over-same u v size (x.end + 2) xs s.2 b.1 h,
    )

pub same-windows : (size : ℕ) (vs ws : List Window) → ((i : ℕ) → i < size → covered vs i ≡ covered ws i)
    → ((i : ℕ) → i < size → last_byte vs i ≡ last_byte ws i) → tidy_windows size vs ≡ tidy_windows size ws
unfolding tidy_windows
same-windows size vs ws c h =
    over-same (last_byte vs) (last_byte ws) size 0 (tidy_spans size vs) (tidy_spaced size vs) (tidy_below size vs) h
    ∙ ap (λ (xs : List Span). map (window_over (last_byte ws)) xs) (spans_same (covered vs) (covered ws) size 0 (λ i _ g. c i (omega arith)))

-- null bytes make no difference
nulled-covered : (ws : List Window) (i : ℕ) → covered (nulled ws) i ≡ covered ws i
unfolding covered
nulled-covered [] i = refl
nulled-covered (w ∷ ws) i = rw (nulled-covered ws i)

pub tidy_nulls : (size : ℕ) (ws : List Window) → tidy_windows size (nulled ws) ≡ tidy_windows size ws
tidy_nulls size ws = same-windows size (nulled ws) ws (λ i _. nulled-covered ws i) (λ i _. null_bytes 0 ws i 0)

-- ---- the same effect

told : (c d : Bool) (x y : ℕ) → pick c x 0 ≡ pick d y 0 → pick c x 1 ≡ pick d y 1 → c ≡ d
told true true x y p q = refl
told false false x y p q = refl
told true false x y p q = absurd (omega (arith, p, q))
told false true x y p q = absurd (omega (arith, p, q))

-- what windows leave in a cell that held old
abbrev pub left : List Window → ℕ → ℕ → ℕ
left ws i old = last_to memory (windows_sent 0 ws) i old

pub same_effect : (size : ℕ) (vs ws : List Window) → AllFit size vs → AllFit size ws
    → ((i : ℕ) → i < size → left vs i 0 ≡ left ws i 0) → ((i : ℕ) → i < size → left vs i 1 ≡ left ws i 1)
    → tidy_windows size vs ≡ tidy_windows size ws
same_effect size vs ws f g none one =
    same-windows size vs ws
    (λ i h.
    told (covered vs i) (covered ws i) (last_byte vs i) (last_byte ws i)
    (sym (windows_last size vs i 0 f) ∙ none i h ∙ windows_last size ws i 0 g)
    (sym (windows_last size vs i 1 f) ∙ one i h ∙ windows_last size ws i 1 g))
    none
