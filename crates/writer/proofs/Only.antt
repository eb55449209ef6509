-- Two results that meet the writer's promise agree. Assumes nothing.
use Prim.Native.Nat.{ℕ}
use mathlib.Core.Path.{◌≡◌, sym, ◌∙◌}
use mathlib.Core.List.{List}
use Rattle.chain.specs.declared.Written.{Written}
use Rattle.writer.specs.Write.{Write}

pub write_only : (kind mode control : ℕ) (address starts ends bytes out : List ℕ) (r q : Written) (x y : List ℕ)
    → Write kind mode control address starts ends bytes out r x
    → Write kind mode control address starts ends bytes out q y
    → (r ≡ q) × (x ≡ y)
write_only kind mode control address starts ends bytes out r q x y a b = (a.answer ∙ sym b.answer, a.output ∙ sym b.output)
