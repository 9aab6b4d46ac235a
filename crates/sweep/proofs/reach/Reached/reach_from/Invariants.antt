-- The directory's entries from `next` on are followed, at every turn, and the one before `next` is the next of them.
-- Those between two of its list are of other directories; at the end none is left.
use Rattle.sweep.specs.Marked.{Held, Grown}
use Rattle.sweep.proofs.Closed.{Followed}
use Rattle.sweep.proofs.reach.Reached.reach_from.Given as goal

abbrev pub invariant-loop-e : goal.invariant-loop-e
invariant-loop-e l = Held l.table l.self × Grown l.initial.self l.self × Followed l.table l.self.marks l.d l.next

abbrev pub decreases-loop-e : goal.decreases-loop-e
decreases-loop-e l = l.next
