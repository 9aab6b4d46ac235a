-- The record laid is the text's own, and its place stands in the list of record numbers, as far behind the first as its position says.
-- So the one store that is made is the stage's at this position.
use Rattle.effects.proofs.stage.put_text.Goals as goal

pub returns : goal.returns
returns c = rw (c.room_at-room.ensures, c.text_at.ensures) at c.put.ensures
