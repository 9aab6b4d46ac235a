-- The entries below i are listed, at every turn.
-- Each turn lists one more.
use Rattle.sweep.specs.Listed.{Listed}
use Rattle.sweep.proofs.reach.list_entries.Given as goal

abbrev pub invariant-loop-i : goal.invariant-loop-i
invariant-loop-i l = Listed l.table l.i l.list
