-- The request is made on what is held of the line and of its text,
-- which is answered as the whole of them is; its answer is what is put into words.
use mathlib.Core.Path.{refl}
use Rattle.filebox.proofs.Steps.{request-tells}
use Rattle.filebox.proofs.service.ask.Goals as goal

pub returns : goal.returns
returns c =
    let a = c.args in
    let m = a.memory.now in (
      request-tells m.table m.index m.line m.text m.reply a.held c.first.ensures c.first-2.ensures c.request-answer.ensures
          c.spell_answer.ensures refl,
      refl,
      refl,
    )
