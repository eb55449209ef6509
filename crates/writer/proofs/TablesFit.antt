-- Tables within a size, with as much data as they ask for, give windows that fit, with all of the data. Assumes nothing.
use Prim.Native.Nat.{ℕ, ◌+◌}
use mathlib.Core.Path.{◌≡◌, refl, ap, ◌∙◌}
use mathlib.Core.List.{List, [], ◌∷◌, ◌++◌}
use native.Mathlib.Omega.{arith}
use lib.ListN.{length, take, drop, length-drop, take-append-drop}
use lib.Seq.{length-take-le}
use Rattle.chain.specs.Window.{width_of}
use Rattle.grammar.specs.Fits.{AllFit}
use Rattle.grammar.specs.Tables.{cells, windows_from}
use Rattle.writer.specs.Write.{sum_of}
use Rattle.writer.proofs.Accepted.{Within}

pub from-cells : (ss es d : List ℕ) → length ss ≡ length es → length d ≡ sum_of ss es → cells (windows_from ss es d) ≡ d
unfolding windows_from sum_of
from-cells [] es [] l h = refl
from-cells [] es (x ∷ d) l h = absurd (omega arith)
from-cells (s ∷ ss) [] d l h = absurd (omega arith)
from-cells (s ∷ ss) (e ∷ es) d l h =
    ap (take (width_of s e) d ++◌) (from-cells ss es (drop (width_of s e) d) (omega arith) (omega (arith, h, length-drop (width_of s e) d)))
    ∙ take-append-drop (width_of s e) d

pub from_fits : (size : ℕ) (ss es d : List ℕ) → length ss ≡ length es → Within size ss es → length d ≡ sum_of ss es → AllFit size (windows_from ss es d)
unfolding windows_from sum_of
from_fits size [] es d l b h = tt
from_fits size (s ∷ ss) [] d l b h = tt
from_fits size (s ∷ ss) (e ∷ es) d l b h =
    let sum : length d ≡ width_of s e + sum_of ss es = h in
    let long : length (take (width_of s e) d) ≡ width_of s e = length-take-le (width_of s e) d (omega arith) in (
      record { order = b.0; inside = b.1; full = omega arith },
      from_fits size ss es (drop (width_of s e) d) (omega arith) b.2 (omega (arith, length-drop (width_of s e) d)),
    )
