-- Two results that meet the hunt's promise agree. Assumes nothing.
use mathlib.Core.Path.{◌≡◌, sym, ◌∙◌}
use mathlib.Core.List.{List}
use Prim.Native.Nat.{ℕ}
use Rattle.hunt.specs.declared.Hunted.{Hunted}
use Rattle.hunt.specs.Hunt.{Hunt}

pub hunt_only : (s out : List ℕ) (r₁ r₂ : Hunted) (out₁ out₂ : List ℕ) → Hunt s out r₁ out₁ → Hunt s out r₂ out₂ → (r₁ ≡ r₂) × (out₁ ≡ out₂)
hunt_only s out r₁ r₂ out₁ out₂ p q = (p.answer ∙ sym q.answer, p.output ∙ sym q.output)
