use Rattle.std.proofs.Common.{◌≡◌, ◌+◌, ◌*◌, ◌≤◌, length, drop}
use Rattle.tidy.specs.Steps.{spans_in, long_of}
use Rattle.tidy.proofs.spans.long.Given as goal

abbrev pub invariant-loop-span : goal.invariant-loop-span
invariant-loop-span l =
    (l.span-index ≤ length l.spans) × (l.sum ≤ 65541 * l.span-index) × (long_of (spans_in l.spans) ≡ l.sum + long_of (spans_in (drop l.span-index l.spans)))
