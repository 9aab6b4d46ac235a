-- The walk stopped, or came to the file, where the reading is `reading_at`.
-- Assumes nothing but the fit table that is read.
use Rattle.paper.specs.Effect.{end_of}
use Rattle.elephant.specs.Reading.{reading_at}
use Rattle.elephant.specs.Walks.{word_of}
use Rattle.elephant.proofs.Ends.{handed, read_off, read_at_lem}
use Rattle.elephant.proofs.reply.read.Goals as goal

pub returns-in_err-ends : goal.returns-in_err-ends
returns-in_err-ends c =
    let a = c.args in
    read_off a.table.now a.line.now a.user 1 a.name (λ _ f. reading_at a.sheet (end_of 1 (word_of a.line.now a.name)) a.table.now a.reply.now f)
    _ c.in_err-ends.ensures a.reply.now _ (handed _ _ c.from_residual.ensures.1)

pub returns : goal.returns
returns c =
    let a = c.args in
    read_at_lem a.table.now a.line.now a.user 1 a.name (λ _ f. reading_at a.sheet (end_of 1 (word_of a.line.now a.name)) a.table.now a.reply.now f)
    c.in_ok-ends.ends c.in_ok-ends.ensures a.reply.now _ _
    (rw c.end.ensures at c.read_at.ensures)
