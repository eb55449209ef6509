use Rattle.std.proofs.Common.{◌≡◌}
use Rattle.eprom.specs.Calls.{lent}
use Rattle.eprom.specs.Fetch.{fetch_all}
use Rattle.eprom.proofs.board.Board.blocks.Given as goal

abbrev pub invariant-loop-self : goal.invariant-loop-self
invariant-loop-self g l = fetch_all l.e l.initial.self.left (lent l.initial.self.chain l.initial.mem l.initial.self.fetcher) ≡ fetch_all l.e l.self.left (lent l.self.chain l.mem l.self.fetcher)

abbrev pub decreases-loop-self : goal.decreases-loop-self
decreases-loop-self g l = l.self.left
