-- Cells that stand together: the cells of some windows as spans, the fewest that there are, ascending and never touching. Assumes nothing.
use Rattle.std.specs.Prelude.{ℕ, zero, suc, Bool, false, ◌&&◌, ◌||◌, List, [], ◌∷◌, eqb, leb}
use Rattle.chain.specs.Rules.{pick}
use Rattle.grammar.specs.Stream.{Window}

-- the cells from start to end inclusive
pub record Span : Type 0 where
  pub start : ℕ
  pub end : ℕ

abbrev pub span : ℕ → ℕ → Span
span a b = record { start = a; end = b }

-- cell i is one of them
abbrev pub has : ℕ → ℕ → ℕ → Bool
has start end i = leb start i && leb i end

-- cell i is in some window
unfoldable pub covered : List Window → ℕ → Bool
covered [] i = false
covered (w ∷ ws) i = has w.start w.end i || covered ws i

-- cell a, and spans above it: where the first of them starts at the next cell, the two are one
abbrev pub cell_and : ℕ → List Span → List Span
cell_and a [] = span a a ∷ []
cell_and a (x ∷ xs) = pick (eqb x.start (suc a)) (span a x.end ∷ xs) (span a a ∷ x ∷ xs)

-- those of the n cells from a on for which c holds
unfoldable pub spans_of : (ℕ → Bool) → ℕ → ℕ → List Span
spans_of c zero a = []
spans_of c (suc n) a = pick (c a) (cell_and a (spans_of c n (suc a))) (spans_of c n (suc a))

-- the values of n cells from a on
abbrev pub values_of : (ℕ → ℕ) → ℕ → ℕ → List ℕ
values_of v zero a = []
values_of v (suc n) a = v a ∷ values_of v n (suc a)
