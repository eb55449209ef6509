-- What is written, and then the rest of the line, make the whole.
use Rattle.std.proofs.Common.{◌≡◌, ◌∷◌, ◌++◌, drop}
use Rattle.listing.specs.Lines.{numbers_of}
use Rattle.listing.proofs.text.line.Given as goal

abbrev pub invariant-loop-n : goal.invariant-loop-n
invariant-loop-n l = l.text.bytes ++ numbers_of (drop l.n-index l.ns) ≡ l.fn.text.bytes ++ (l.fn.letter ∷ numbers_of l.ns)
