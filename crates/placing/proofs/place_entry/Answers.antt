-- The entry's store is a stage of one, the counts go by the table that it leaves, and the settling is a stage after them.
-- Where no file is lost there is no settling.
use mathlib.Core.List.{append-nil}
use Rattle.effects.proofs.Stages.{made-both}
use Rattle.placing.proofs.Meeting.{made-entered}
use Rattle.placing.proofs.place_entry.Goals as goal

pub returns-in-Some : goal.returns-in-Some
returns-in-Some c =
    rw c.in-Some.is
    (made-both _ _ _ _ _ _ _ _ (made-entered _ _ _ _ _ _ _ _ _ c.put-laid.ensures c.recount-rest.ensures) c.clear_file.ensures)

pub returns-in-None : goal.returns-in-None
returns-in-None c =
    rw (c.in-None.is, append-nil) (made-entered _ _ _ _ _ _ _ _ _ c.put-laid.ensures c.recount-rest.ensures)
