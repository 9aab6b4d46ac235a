-- The kind, the length of a whole block, the two numbers in two bytes each
-- and two zeros are the definition's eight bytes.
use Rattle.paper.specs.Number.{bytes_of}
use Rattle.effects.specs.Stage.{text_front}
use Rattle.effects.proofs.stage.text_front.Goals as goal

pub returns : goal.returns
unfolding text_front bytes_of
returns c = rw (c.two_bytes.ensures, c.two_bytes-2.ensures)
