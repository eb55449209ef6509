-- Two results that meet the tidier's promise agree. Assumes nothing.
use Prim.Native.Nat.{ℕ}
use mathlib.Core.Path.{◌≡◌}
use mathlib.Core.List.{List}
use lib.ListN.{length}
use Rattle.chain.specs.declared.Written.{Written}
use Rattle.chain.specs.Kinds.{size_of}
use Rattle.chain.proofs.Output.{writes_only}
use Rattle.tidy.specs.Tidy.{tidied, tidy_number, Tidies}

pub tidy_only : (kind : ℕ) (s out : List ℕ) (r q : Written) (x y : List ℕ) → Tidies kind s out r x → Tidies kind s out q y → (r ≡ q) × (x ≡ y)
tidy_only kind s out r q x y a b = writes_only (tidy_number kind s (length out)) (tidied (size_of kind) s) out r q x y a b
