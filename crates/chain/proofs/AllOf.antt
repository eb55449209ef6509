-- All of a list of tests hold exactly if each of them does. Assumes nothing.
use Prim.Native.Nat.{ℕ, zero, suc}
use mathlib.Core.Bool.{Bool, true, false, ◌&&◌, false≢true}
use mathlib.Core.Path.{◌≡◌, refl}
use mathlib.Core.List.{List, [], ◌∷◌}
use lib.ListN.{get_or}
use Rattle.chain.specs.Rules.{all_from, all_of}

infixr 20 ◌and◌
pub data Each : List Bool → Type 0 where
  none : Each []
  ◌and◌ : {b : Bool} {bs : List Bool} → b ≡ true → Each bs → Each (b ∷ bs)

all_from_lem : (held : Bool) (bs : List Bool) → all_from held bs ≡ true → Each (held ∷ bs)
all_from_lem held [] h = h and none
all_from_lem held (b ∷ bs) h = apart held (all_from_lem (held && b) bs h)
  where
    apart : (held : Bool) → Each ((held && b) ∷ bs) → Each (held ∷ b ∷ bs)
    apart true hs = refl and hs
    apart false (h and hs) = absurd (false≢true h)

from_each : (held : Bool) (bs : List Bool) → held ≡ true → Each bs → all_from held bs ≡ true
from_each held [] e none = e
from_each true (b ∷ bs) e (h and hs) = from_each b bs h hs
from_each false (b ∷ bs) e (h and hs) = absurd (false≢true e)

pub all_each : (bs : List Bool) → all_of bs ≡ true → Each bs
all_each [] h = none
all_each (b ∷ bs) h = all_from_lem b bs h

pub each_all : (bs : List Bool) → Each bs → all_of bs ≡ true
each_all [] none = refl
each_all (b ∷ bs) (h and hs) = from_each b bs h hs

-- the test i of the list, from 0
pub each_row : (bs : List Bool) → Each bs → (i : ℕ) → get_or bs i true ≡ true
each_row [] none i = refl
each_row (b ∷ bs) (h and hs) zero = h
each_row (b ∷ bs) (h and hs) (suc i) = each_row bs hs i
