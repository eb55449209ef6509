-- The windows that tables give have the tables' starts and ends, and null bytes 00; and the tables of windows that fit give those windows
-- back, their null bytes 00. Assumes nothing.
use Prim.Native.Nat.{ℕ, suc}
use mathlib.Core.Path.{◌≡◌, refl, ap}
use mathlib.Core.List.{List, [], ◌∷◌}
use native.Mathlib.Omega.{arith}
use lib.ListN.{length, take, drop}
use lib.Seq.{take_at, drop_at}
use Rattle.chain.specs.Window.{width_of}
use Rattle.grammar.specs.Stream.{Window}
use Rattle.grammar.specs.Fits.{AllFit}
use Rattle.grammar.specs.Tables.{starts, ends, cells, window_of, windows_from, nulled}

pub from-starts : (ss es d : List ℕ) → length ss ≡ length es → starts (windows_from ss es d) ≡ ss
unfolding windows_from
from-starts [] es d l = refl
from-starts (s ∷ ss) [] d l = absurd (omega arith)
from-starts (s ∷ ss) (e ∷ es) d l = ap (s ∷◌) (from-starts ss es (drop (width_of s e) d) (omega arith))

pub from-ends : (ss es d : List ℕ) → length ss ≡ length es → ends (windows_from ss es d) ≡ es
unfolding windows_from
from-ends [] [] d l = refl
from-ends [] (e ∷ es) d l = absurd (omega arith)
from-ends (s ∷ ss) [] d l = absurd (omega arith)
from-ends (s ∷ ss) (e ∷ es) d l = ap (e ∷◌) (from-ends ss es (drop (width_of s e) d) (omega arith))

pub from_many : (ss es d : List ℕ) → length ss ≡ length es → length (windows_from ss es d) ≡ length ss
unfolding windows_from
from_many [] es d l = refl
from_many (s ∷ ss) [] d l = absurd (omega arith)
from_many (s ∷ ss) (e ∷ es) d l = ap suc (from_many ss es (drop (width_of s e) d) (omega arith))

pub from-nulled : (ss es d : List ℕ) → nulled (windows_from ss es d) ≡ windows_from ss es d
unfolding windows_from
from-nulled [] es d = refl
from-nulled (s ∷ ss) [] d = refl
from-nulled (s ∷ ss) (e ∷ es) d = ap (window_of s e (take (width_of s e) d) ∷◌) (from-nulled ss es (drop (width_of s e) d))

pub from_tables : (size : ℕ) (ws : List Window) → AllFit size ws → windows_from (starts ws) (ends ws) (cells ws) ≡ nulled ws
unfolding windows_from
from_tables size [] f = refl
from_tables size (w ∷ ws) f =
    let l : length w.bytes ≡ width_of w.start w.end = omega (arith, f.0.full) in
    rw (take_at w.bytes (cells ws) (width_of w.start w.end) l, drop_at w.bytes (cells ws) (width_of w.start w.end) l, from_tables size ws f.1)
