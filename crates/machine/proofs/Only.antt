-- Two results that meet a promise agree: start, slice, byte and drop. Assumes nothing.
use Rattle.std.proofs.Common.{◌≡◌, ℕ, List, [], ◌∷◌, sym, ◌∙◌}
use Rattle.chain.specs.declared.Chain.{Chain}
use Rattle.chain.specs.declared.Made.{Made}
use Rattle.machine.specs.declared.Fed.{Fed}
use Rattle.machine.specs.Calls.{Start, Slice, Byte, Drop}

pub start_only : (c : Chain) (m : List ℕ) (mode check : ℕ) (r s : Made) → Start c m mode check r → Start c m mode check s → r ≡ s
start_only c m mode check r s p q = p.made ∙ sym q.made

pub slice_only : (c : Chain) (m bs : List ℕ) (r s : Fed) (m' m'' : List ℕ)
    → Slice c m bs r m' → Slice c m bs s m'' → (r ≡ s) × (m' ≡ m'')
slice_only c m bs r s m' m'' p q = (p.fed ∙ sym q.fed, p.memory ∙ sym q.memory)

pub byte_only : (c : Chain) (m : List ℕ) (b : ℕ) (r s : Fed) (m' m'' : List ℕ)
    → Byte c m b r m' → Byte c m b s m'' → (r ≡ s) × (m' ≡ m'')
byte_only c m b = slice_only c m (b ∷ [])

pub drop_only : (c : Chain) (m : List ℕ) (r s : Made) → Drop c m r → Drop c m s → r ≡ s
drop_only c m r s p q = p.made ∙ sym q.made
