use Rattle.std.proofs.Common.{◌≡◌, ◌+◌, ◌*◌, ◌-◌}
use Rattle.std.proofs.lemmas.List.Edits.{sets}
use Rattle.hunt.specs.Bits.{bytes_from}
use Rattle.hunt.proofs.shift.Given as goal

-- the bytes still to be written, stored from here on, give the whole
abbrev pub invariant-loop-i : goal.invariant-loop-i
invariant-loop-i l =
    sets l.initial.out 0 (bytes_from l.s (l.k) l.n) ≡ sets l.out l.i (bytes_from l.s (8 * l.i + l.k) (l.n - l.i))
