-- A block has at most 24 bytes,
-- so that nothing of it is cut off.
use Rattle.records.proofs.Builds.{take-block}
use Rattle.records.proofs.text.Text.of_text.Goals as goal

pub returns : goal.returns
returns c = rw (c.laid.ensures, c.block_at.ensures, take-block)
