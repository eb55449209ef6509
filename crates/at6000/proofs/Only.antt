-- Two results of an in-place call that meet its promise agree: the chain left, the answer and the memory. Assumes nothing.
use Prim.Native.Nat.{ℕ}
use mathlib.Core.Path.{◌≡◌, ap}
use mathlib.Core.List.{List}
use Rattle.chain.specs.declared.Chain.{Chain}
use Rattle.chain.specs.declared.Made.{Made}
use Rattle.machine.specs.declared.Answer.{Answer}
use Rattle.machine.specs.declared.Fed.{Fed}
use Rattle.machine.proofs.Only.{start_only, slice_only}
use Rattle.saved.proofs.Only.{pick-up_only}
use Rattle.at6000.specs.InPlace.{StartIn, SliceIn, PickUpIn}

abbrev made : Chain → ℕ → Made
made c n = record { chain = c; number = n }

abbrev fed : Chain → Answer → Fed
fed c a = record { chain = c; answer = a }

pub start_in_only : (c : Chain) (m : List ℕ) (mode check : ℕ) (c₁ c₂ : Chain) (n₁ n₂ : ℕ)
    → StartIn c m mode check c₁ n₁ → StartIn c m mode check c₂ n₂ → (c₁ ≡ c₂) × (n₁ ≡ n₂)
start_in_only c m mode check c₁ c₂ n₁ n₂ p q =
    let same = start_only c m mode check (made c₁ n₁) (made c₂ n₂) p q in
    (ap (λ (r : Made). r.chain) same, ap (λ (r : Made). r.number) same)

pub slice_in_only : (c : Chain) (m s : List ℕ) (c₁ c₂ : Chain) (a₁ a₂ : Answer) (m₁ m₂ : List ℕ)
    → SliceIn c m s c₁ a₁ m₁ → SliceIn c m s c₂ a₂ m₂ → (c₁ ≡ c₂) × (a₁ ≡ a₂) × (m₁ ≡ m₂)
slice_in_only c m s c₁ c₂ a₁ a₂ m₁ m₂ p q =
    let same = slice_only c m s (fed c₁ a₁) (fed c₂ a₂) m₁ m₂ p q in
    (ap (λ (r : Fed). r.chain) same.0, ap (λ (r : Fed). r.answer) same.0, same.1)

pub pick-up_in_only : (c : Chain) (m s : List ℕ) (c₁ c₂ : Chain) (n₁ n₂ : ℕ)
    → PickUpIn c m s c₁ n₁ → PickUpIn c m s c₂ n₂ → (c₁ ≡ c₂) × (n₁ ≡ n₂)
pick-up_in_only c m s c₁ c₂ n₁ n₂ p q =
    let same = pick-up_only c m s (made c₁ n₁) (made c₂ n₂) p q in
    (ap (λ (r : Made). r.chain) same, ap (λ (r : Made). r.number) same)
