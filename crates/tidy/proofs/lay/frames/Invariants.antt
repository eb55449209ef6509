use Rattle.tidy.proofs.Framing.{Framing}
use Rattle.tidy.proofs.lay.frames.Given as goal

abbrev pub invariant-loop-span : goal.invariant-loop-span
invariant-loop-span l = Framing l.spans l.initial.out l.out l.at l.span-index
