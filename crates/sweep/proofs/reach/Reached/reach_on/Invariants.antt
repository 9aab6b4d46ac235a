-- What is marked waits in the queue from `taken` on or has its entries followed, at every turn; what stands in the queue is reached.
-- Each turn follows the first that waits; at the end none does, so the marks are closed.
use Rattle.std.proofs.Common.{◌-◌, ◌≤◌}
use Rattle.paper.specs.Table.{rooms}
use Rattle.sweep.specs.Marked.{Held, Waits, Based}
use Rattle.sweep.proofs.reach.Reached.reach_on.Given as goal

abbrev pub invariant-loop-taken : goal.invariant-loop-taken
invariant-loop-taken l = Held l.table l.self × Waits l.table l.taken l.self × Based l.table l.self.marks (rooms l.table) × (l.self.end ≤ 2048)

abbrev pub decreases-loop-taken : goal.decreases-loop-taken
decreases-loop-taken l = 2048 - l.taken
