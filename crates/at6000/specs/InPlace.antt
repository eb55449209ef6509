-- The in-place calls: the chain that is left where the caller keeps it and what is answered are, together, the result of the call by
-- value, and are held to its promise. Assumes nothing.
use Rattle.std.specs.Prelude.{ℕ, List}
use Rattle.chain.specs.declared.Chain.{Chain}
use Rattle.machine.specs.declared.Answer.{Answer}
use Rattle.machine.specs.Calls.{Start, Slice}
use Rattle.saved.specs.Calls.{PickUp}

abbrev pub StartIn : Chain → List ℕ → ℕ → ℕ → Chain → ℕ → Type 0
StartIn c m mode check c' n = Start c m mode check (record { chain = c'; number = n })

abbrev pub SliceIn : Chain → List ℕ → List ℕ → Chain → Answer → List ℕ → Type 0
SliceIn c m s c' a m' = Slice c m s (record { chain = c'; answer = a }) m'

abbrev pub PickUpIn : Chain → List ℕ → List ℕ → Chain → ℕ → Type 0
PickUpIn c m s c' n = PickUp c m s (record { chain = c'; number = n })
