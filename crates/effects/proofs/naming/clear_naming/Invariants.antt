-- After i turns the entries below i that name the heading are cleared as far as is allowed, and each turn adds one record.
-- At the end these are all records.
use Rattle.paper.specs.Record.{names}
use Rattle.paper.specs.Store.{clears}
use Rattle.paper.specs.Table.{rec}
use Rattle.effects.specs.Stage.{Made}
use Rattle.effects.proofs.naming.clear_naming.Given as goal

abbrev pub invariant-loop-i : goal.invariant-loop-i
invariant-loop-i l = Made l.initial.table l.table l.initial.rest l.rest (clears (λ j. names l.heading.0 (rec l.initial.table j)) l.i)
