-- After i turns each record below i has its mark, found in the table as it is.
-- At the end these are all records.
use Rattle.std.proofs.Common.{◌≡◌, length}
use Rattle.sweep.specs.Lost.{LostBelow}
use Rattle.sweep.specs.Marked.{Reaches}
use Rattle.sweep.proofs.stores.mark_lost.Given as goal

abbrev pub invariant-loop-i : goal.invariant-loop-i
invariant-loop-i l = LostBelow l.table l.reached.queue l.i × Reaches l.table l.reached.marks × (length l.reached.queue ≡ 2048)
