-- Two results that meet a promise agree. Assumes nothing.
use Prim.Native.Nat.{ℕ}
use mathlib.Core.Path.{◌≡◌, sym, ◌∙◌}
use lib.ListN.{length}
use mathlib.Core.List.{List}
use Rattle.chain.specs.declared.Chain.{Chain}
use Rattle.chain.specs.declared.Made.{Made}
use Rattle.chain.specs.declared.Written.{Written}
use Rattle.chain.proofs.Output.{writes_only}
use Rattle.saved.specs.Layout.{saved_bytes}
use Rattle.saved.specs.Calls.{save_number, Save, PickUp}

pub save_only : (c : Chain) (m out : List ℕ) (r r₂ : Written) (out' out₂ : List ℕ) → Save c m out r out' → Save c m out r₂ out₂ → (r ≡ r₂) × (out' ≡ out₂)
save_only c m out = writes_only (save_number c (length m) (length out)) (saved_bytes c.registers c.place) out

pub pick-up_only : (c : Chain) (m s : List ℕ) (r r₂ : Made) → PickUp c m s r → PickUp c m s r₂ → r ≡ r₂
pick-up_only c m s r r₂ p q = p.made ∙ sym q.made
