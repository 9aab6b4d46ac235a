-- A list that is not true is refused; else the request is `elephant`'s, and the index as lent where it was cut or nothing was stored, and
-- repaired where something was.
use mathlib.Core.Path.{sym, ◌∙◌}
use Rattle.indexed.proofs.Requests.{judged-true, refuses, keeps_cut, keeps-still, repair-ready, keeps-repaired}
use Rattle.indexed.proofs.request.Goals as goal
use Rattle.indexed.proofs.request.Goals.{else-answer-ne-STOPPED-via-then-answer-ne-STOPPED+else-answer-ne0, else-answer-ne-STOPPED-via-else-answer-ne-STOPPED}

pub returns-then-not-is_true : goal.returns-then-not-is_true
returns-then-not-is_true c =
    let s = c.args in
    refuses s.table.now s.index.now s.line.now s.text.now s.reply.now s.user s.stop c.refuse.result
    (sym c.is_true.ensures ∙ c.if-not-is_true.true) c.refuse.ensures

pub returns-else-answer-ne-STOPPED : goal.returns-else-answer-ne-STOPPED
returns-else-answer-ne-STOPPED c =
    let s = c.args in
    let a = c.request-answer in
    let e = judged-true _ _ (sym c.is_true.ensures ∙ c.if-not-is_true.false) in
    elim c.else-answer-ne-STOPPED.branch [
      | else-answer-ne-STOPPED-via-then-answer-ne-STOPPED+else-answer-ne0 w ↦
          keeps-still s.table.now s.index.now s.line.now s.text.now s.reply.now s.user s.stop e a.result a.new.table a.new.reply a.ensures
          w.if-answer-ne0.false
      | else-answer-ne-STOPPED-via-else-answer-ne-STOPPED w ↦
          keeps_cut s.table.now s.index.now s.line.now s.text.now s.reply.now s.user s.stop e a.result a.new.table a.new.reply a.ensures
          w.if-answer-ne-STOPPED.false
    ]

pub returns-then-answer-ne0 : goal.returns-then-answer-ne0
returns-then-answer-ne0 c =
    let s = c.args in
    let a = c.request-answer in
    let e = judged-true _ _ (sym c.is_true.ensures ∙ c.if-not-is_true.false) in
    let n = c.if-answer-ne-STOPPED.true in
    let m = c.if-answer-ne0.true in
    let z = repair-ready s.table.now s.index.now s.line.now s.text.now s.reply.now s.user s.stop e a.result a.new.table a.new.reply a.ensures n m in
    keeps-repaired s.table.now s.index.now s.line.now s.text.now s.reply.now s.user s.stop e a.result a.new.table a.new.reply a.ensures n m _
    (c.repair.ensures.1 z.apart z.fitting)
