-- The table and the reply are those of the request,
-- and nothing is held any more.
use Rattle.filebox.proofs.Steps.{answer-shows}
use Rattle.filebox.proofs.service.answer.Goals as goal
use Rattle.filebox.proofs.service.answer.Goals.{then-held, else-held}

pub returns : goal.returns
returns c =
    let a = c.args in
    let m = a.memory.now in
    let e = c.ask-told.ensures in
    elim c.if-held.branch [
      | then-held w ↦ rw (w.memory-is, e.1, e.2) (answer-shows m.table m.index m.line m.text m.reply a.held e.0 _ c.new.ensures)
      | else-held w ↦ rw (w.memory-is, e.1, e.2) (answer-shows m.table m.index m.line m.text m.reply a.held e.0 _ c.new.ensures)
    ]
