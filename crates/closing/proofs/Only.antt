-- Two results that meet the promise agree. Assumes nothing.
use Prim.Native.Nat.{ℕ}
use mathlib.Core.Path.{◌≡◌}
use mathlib.Core.List.{List}
use lib.ListN.{length}
use Rattle.chain.specs.declared.Chain.{Chain}
use Rattle.chain.specs.declared.Written.{Written}
use Rattle.chain.proofs.Output.{writes_only}
use Rattle.closing.specs.Closing.{closing_bytes}
use Rattle.closing.specs.Calls.{written_number, Closing}

pub closing_only : (c : Chain) (m out : List ℕ) (r s : Written) (out' out'' : List ℕ) → Closing c m out r out' → Closing c m out s out''
    → (r ≡ s) × (out' ≡ out'')
closing_only c m out = writes_only (written_number c m (length out)) (closing_bytes c m) out
