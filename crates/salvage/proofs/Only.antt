-- Two results that meet salvage's promise agree. Assumes nothing.
use Prim.Native.Nat.{ℕ}
use mathlib.Core.Path.{◌≡◌, sym, ◌∙◌}
use mathlib.Core.List.{List}
use Rattle.salvage.specs.declared.Salvaged.{Salvaged}
use Rattle.salvage.specs.Salvage.{Salvages}

pub salvage_only : (kind : ℕ) (s out : List ℕ) (r q : Salvaged) (x y : List ℕ) → Salvages kind s out r x → Salvages kind s out q y → (r ≡ q) × (x ≡ y)
salvage_only kind s out r q x y a b = (a.answer ∙ sym b.answer, a.output ∙ sym b.output)
