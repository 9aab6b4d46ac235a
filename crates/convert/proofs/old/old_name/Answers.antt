-- The name is the first bytes of its ten,
-- as many as the length byte says.
use mathlib.Core.Path.{◌∙◌}
use Rattle.paper.specs.Layout.{old_name}
use Rattle.convert.proofs.old.old_name.Goals as goal

pub returns : goal.returns
unfolding old_name
returns c = c.part.ensures ∙ rw (c.part-field.ensures, c.record_at.ensures, c.from-length.ensures, c.byte_of.ensures)
