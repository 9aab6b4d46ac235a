-- The first ten bytes of the record, up to the first zero:
-- that is the definition, by its parts.
use mathlib.Core.Path.{◌∙◌}
use Rattle.job.specs.Sheet.{link_of}
use Rattle.lamp.proofs.sheet.link_of.Goals as goal

pub returns : goal.returns
unfolding link_of
returns c = c.unpadded.ensures ∙ rw (c.part.ensures, c.record_at.ensures)
