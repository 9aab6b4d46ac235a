-- A number of 32 bits is one of 64.
-- Assumes nothing more.
use Rattle.filebox.proofs.output.spell.Goals as goal

pub returns : goal.returns
returns c = rw c.from.ensures at c.spell_wide.ensures
