-- Two results that meet the text's promise agree. Assumes nothing.
use Prim.Native.Nat.{ℕ}
use mathlib.Core.Path.{◌≡◌, sym, ◌∙◌}
use mathlib.Core.List.{List}
use Rattle.listing.specs.Program.{Writes}

pub text_only : (input out : List ℕ) (r₁ r₂ : ℕ) (out₁ out₂ : List ℕ) → Writes input out r₁ out₁ → Writes input out r₂ out₂ → (r₁ ≡ r₂) × (out₁ ≡ out₂)
text_only input out r₁ r₂ out₁ out₂ p q = (p.answer ∙ sym q.answer, p.output ∙ sym q.output)
