-- Two results that meet a promise agree: new and reset. Assumes nothing.
use Prim.Native.Nat.{ℕ}
use mathlib.Core.Path.{◌≡◌, sym, ◌∙◌}
use mathlib.Core.List.{List}
use Rattle.chain.specs.declared.Chain.{Chain}
use Rattle.chain.specs.declared.Made.{Made}
use Rattle.chain.specs.Calls.{New, Reset}

pub new_only : (count : ℕ) (kinds m : List ℕ) (r s : Made) → New count kinds m r → New count kinds m s → r ≡ s
new_only count kinds m r s p q = p.made ∙ sym q.made

pub reset_only : (c : Chain) (m : List ℕ) (r s : Made) (m' m'' : List ℕ)
    → Reset c m r m' → Reset c m s m'' → (r ≡ s) × (m' ≡ m'')
reset_only c m r s m' m'' p q = (p.made ∙ sym q.made, p.memory ∙ sym q.memory)
