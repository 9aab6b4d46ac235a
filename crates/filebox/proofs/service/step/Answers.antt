-- Byte 10 ends a line or a text;
-- any other byte is one of them.
use borrow.Author.Tests.{eq-eqb, ne_eqb}
use Rattle.filebox.proofs.Steps.{end-steps, grow-steps}
use Rattle.filebox.proofs.service.step.Goals as goal

pub returns-then-b-eq10 : goal.returns-then-b-eq10
returns-then-b-eq10 c =
    let a = c.args in
    let m = a.memory.now in
    end-steps m.table m.index m.line m.text m.reply a.held a.b _ _ _ _ _ _ (eq-eqb a.b 10 c.if-b-eq10.true) c.end.ensures

pub returns-else-b-eq10 : goal.returns-else-b-eq10
returns-else-b-eq10 c =
    let a = c.args in
    let m = a.memory.now in
    grow-steps m.table m.index m.line m.text m.reply a.held a.b _ _ _ _ _ _ (ne_eqb a.b 10 c.if-b-eq10.false) c.grow.ensures
