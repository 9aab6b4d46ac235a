-- The heading's store is a stage of one, and the text's is a stage after it.
-- Where there is no new file there is no store.
use Rattle.effects.proofs.Stages.{made-both, made_none}
use Rattle.elephant.proofs.filing.put_file.Goals as goal

pub returns-in_default : goal.returns-in_default
returns-in_default c = rw c.in_default.is (made_none _ _)

pub returns : goal.returns
returns c =
    rw (c.in-Some.is, ← c.room_at-room.ensures) (made-both _ _ _ _ _ _ _ _ c.put-rest.ensures c.put_texts.ensures)
