-- A byte goes to the text where it is asked for, and else to the line,
-- whose stage goes one byte further.
use mathlib.Core.Path.{refl}
use Rattle.filebox.proofs.Steps.{text-follows, line-follows}
use Rattle.filebox.proofs.service.grow.Goals as goal

pub returns-then-held : goal.returns-then-held
returns-then-held c =
    let a = c.args in
    let m = a.memory.now in
    let q = c.if-held.true in
    rw c.keep.ensures.1 (text-follows m.table m.index m.line m.text m.reply a.held a.b q _ refl refl q c.keep.ensures.0)

pub returns-else-held : goal.returns-else-held
returns-else-held c =
    let a = c.args in
    let m = a.memory.now in
    let q = c.if-held.false in
    rw c.keep-else-held.ensures.1 (line-follows m.table m.index m.line m.text m.reply a.held a.b q _ c.keep-else-held.ensures.0 c.after.ensures q refl)
