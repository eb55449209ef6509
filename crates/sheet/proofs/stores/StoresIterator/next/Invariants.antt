use Rattle.std.proofs.Common.{◌≡◌, ◌+◌, ◌-◌, ◌/◌, ◌≤◌, length}
use Rattle.sheet.specs.Steps.{puts_left}
use Rattle.sheet.proofs.stores.StoresIterator.next.Given as goal

-- `next` meets its contract. The invariant: what is left to be stored is what was left at first. Assumes nothing.
abbrev pub invariant-loop-self : goal.invariant-loop-self
invariant-loop-self l =
    let a = l.fn.self in
    let b = l.self in
    record {
      size : b.size ≡ a.size;
      bytes : b.bytes ≡ a.bytes;
      further : a.at ≤ b.at;
      left : puts_left a.chain a.bytes.stream.now a.bytes.p a.at ≡ puts_left b.chain b.bytes.stream.now b.bytes.p b.at;
    }

abbrev pub decreases-loop-self : goal.decreases-loop-self
decreases-loop-self l = length l.self.bytes.stream.now - (l.self.bytes.p + 7) / 8 - l.self.at
