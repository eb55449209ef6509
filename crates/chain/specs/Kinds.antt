-- Kinds and their sizes, and where a device's memory begins. Assumes nothing.
use Rattle.std.specs.Prelude.{ℕ, zero, suc, ◌+◌, Bool, true, not, ◌&&◌, List, [], ◌∷◌, eqb, get_or}
use Rattle.chain.specs.declared.Chain.{Chain}
use Rattle.chain.specs.Rules.{pick}

-- the guide's teaching array, and Table 3's mode 1 sizes less 12 bytes of framing
abbrev pub kinds : List ℕ
kinds = 0 ∷ 2 ∷ 3 ∷ 5 ∷ 10 ∷ []

abbrev pub sizes : List ℕ
sizes = 52 ∷ 2665 ∷ 4141 ∷ 8065 ∷ 16381 ∷ []

-- the entry of the second list that stands where x stands in the first, 0 where it does not
abbrev pub lookup : List ℕ → List ℕ → ℕ → ℕ
lookup [] vs x = 0
lookup (k ∷ ks) [] x = 0
lookup (k ∷ ks) (v ∷ vs) x = pick (eqb k x) v (lookup ks vs x)

-- the bytes of memory of a kind, 0 for an unknown one
unfoldable pub size_of : ℕ → ℕ
size_of k = lookup kinds sizes k

-- the size of a chain's device d
abbrev pub size_at : Chain → ℕ → ℕ
size_at c d = size_of (get_or c.kinds d 0)

-- the size of the run's device
abbrev pub size_here : Chain → ℕ
size_here c = size_at c c.place.device

-- the memories lie one after another: the sizes of the first n kinds in all, which is where the memory of device n begins
unfoldable pub base_of : List ℕ → ℕ → ℕ
base_of ks zero = 0
base_of [] (suc n) = 0
base_of (k ∷ ks) (suc n) = size_of k + base_of ks n

-- the first n kinds are known
unfoldable pub known_of : List ℕ → ℕ → Bool
known_of ks zero = true
known_of [] (suc n) = true
known_of (k ∷ ks) (suc n) = not (eqb (size_of k) 0) && known_of ks n
