-- The known kinds by name, and which bytes name one. Assumes nothing.
use Rattle.std.specs.Prelude.{ℕ, ◌≡◌, Result, MatchResult}
use Rattle.chain.specs.declared.kinds.Kind.{Kind}
use Rattle.chain.specs.declared.kinds.Kind.TheVariants.{Teaching, At6002, At6003, At6005, At6010}
use Rattle.chain.specs.declared.refusal.Refusal.{Refusal}
use Rattle.chain.specs.declared.refusal.Refusal.TheVariants.{BadChain}
use Rattle.chain.specs.Kinds.{size_of}

abbrev pub kind_number : Kind → ℕ
kind_number Teaching = 0
kind_number At6002 = 2
kind_number At6003 = 3
kind_number At6005 = 5
kind_number At6010 = 10

-- the kind that this byte names, or 1 where it names none
abbrev pub AsKind : ℕ → Result Kind Refusal → Type 0
AsKind n r = MatchResult r (λ k. kind_number k ≡ n) (λ e. (e ≡ BadChain) × (size_of n ≡ 0))
