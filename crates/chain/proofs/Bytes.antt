-- Lists of bytes: every number in them is below 256. Assumes nothing.
use Prim.Native.Nat.{ℕ, zero, suc, ◌<◌, zero-le, suc-le-suc}
use mathlib.Core.Bool.{Bool, true, ◌&&◌}
use mathlib.Core.Path.{◌≡◌}
use mathlib.Core.List.{List, [], ◌∷◌, ◌++◌}
use lib.Dec.{lit<, ltb}
use lib.ListN.{length, get_or, take, drop}
use Rattle.chain.specs.Bytes.{Bytes}
use Rattle.chain.proofs.Means.{says, reads}

pub bytes-append : (a b : List ℕ) → Bytes a → Bytes b → Bytes (a ++ b)
bytes-append [] b h g = g
bytes-append (x ∷ a) b h g = (h.0, bytes-append a b h.1 g)

pub bytes-front : (a b : List ℕ) → Bytes (a ++ b) → Bytes a
bytes-front [] b h = tt
bytes-front (x ∷ a) b h = (h.0, bytes-front a b h.1)

pub bytes_rest : (a b : List ℕ) → Bytes (a ++ b) → Bytes b
bytes_rest [] b h = h
bytes_rest (x ∷ a) b h = bytes_rest a b h.1

pub bytes_take : (k : ℕ) (bs : List ℕ) → Bytes bs → Bytes (take k bs)
bytes_take zero bs h = tt
bytes_take (suc k) [] h = tt
bytes_take (suc k) (b ∷ bs) h = (h.0, bytes_take k bs h.1)

-- as a lent slice has it: by index
pub bytes_by : (bs : List ℕ) → ((i : ℕ) → i < length bs → get_or bs i 0 < 256) → Bytes bs
bytes_by [] h = tt
bytes_by (b ∷ bs) h = (h zero (suc-le-suc zero-le), bytes_by bs (λ i g. h (suc i) (suc-le-suc g)))

pub bytes-at : (xs : List ℕ) → Bytes xs → (i : ℕ) → get_or xs i 0 < 256
bytes-at [] u i = lit< tt
bytes-at (x ∷ xs) u zero = u.0
bytes-at (x ∷ xs) u (suc i) = bytes-at xs u.1 i

pub bytes_drop : (n : ℕ) (xs : List ℕ) → Bytes xs → Bytes (drop n xs)
bytes_drop zero xs u = u
bytes_drop (suc n) [] u = tt
bytes_drop (suc n) (x ∷ xs) u = bytes_drop n xs u.1

-- a list that is known is tried
abbrev pub below : List ℕ → Bool
below [] = true
below (x ∷ xs) = ltb x 256 && below xs

pub bytes_below : (xs : List ℕ) → below xs ≡ true → Bytes xs
bytes_below [] h = tt
bytes_below (x ∷ xs) h = let t : (x < 256) × (below xs ≡ true) = says (search reads) h in (t.0, bytes_below xs t.1)
