-- The length is laid first and the name copied behind it, over zeros:
-- these are the bytes of the name, padded.
use mathlib.Core.Path.{◌∙◌}
use Rattle.convert.proofs.Names.{old-over}
use Rattle.convert.proofs.old.old_field.Goals as goal

pub returns : goal.returns
returns c =
    c.copy_in.ensures ∙ old-over c.args.name.now c.requires
