-- The stretch from the position's place on is the block; where the place is no number of the machine
-- the text has ended long before, and so there is nothing.
use mathlib.Core.Path.{◌∙◌}
use native.Mathlib.Omega.{arith}
use Rattle.paper.specs.Block.{block}
use Rattle.records.proofs.Stretches.{stretch-near}
use Rattle.records.proofs.block.block_at.Goals as goal

pub returns : goal.returns
unfolding block
returns c = c.part.ensures ∙ stretch-near _ _ _ 24 _ c.saturating_mul-before.ensures (omega arith)
