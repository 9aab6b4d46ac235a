-- The stretch of 32 bytes from the record's place on is the record; where the place is no number of the machine
-- the table has ended long before, and so there is nothing.
use mathlib.Core.Path.{◌∙◌}
use native.Mathlib.Omega.{arith}
use Rattle.paper.specs.Table.{rec}
use Rattle.records.proofs.Stretches.{stretch-near}
use Rattle.records.proofs.bytes.record_at.Goals as goal

pub returns : goal.returns
unfolding rec
returns c = c.part.ensures ∙ stretch-near _ _ _ 32 _ c.saturating_mul.ensures (omega arith)
