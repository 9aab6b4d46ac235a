-- A text that ends is answered, and so is a line that takes none;
-- a line whose first word is WRS or `WRS*` waits for its text.
use mathlib.Core.Bool.{true, false}
use mathlib.Core.Logic.{◌⊎◌, inl, inr}
use mathlib.Core.Path.{◌≡◌, refl, sym, ◌∙◌}
use borrow.Author.Tests.{not-true, not-false}
use Rattle.filebox.specs.FirstWord.{takes}
use Rattle.filebox.proofs.Steps.{answer-ends, text-asked}
use Rattle.filebox.proofs.service.end.Goals as goal
use Rattle.filebox.proofs.service.end.Goals.{else-not-held-via-then-not-held+else-takes_text, else-not-held-via-else-not-held}

pub returns-then-takes_text : goal.returns-then-takes_text
returns-then-takes_text c =
    let a = c.args in
    let m = a.memory.now in
    text-asked m.table m.index m.line m.text m.reply a.held _
    (not-true _ c.if-not-held.true) (sym c.takes_text.ensures ∙ c.if-takes_text.true) refl refl refl refl

pub returns-else-not-held : goal.returns-else-not-held
returns-else-not-held c =
    let a = c.args in
    let m = a.memory.now in
    let ends : (a.held.asked ≡ true) ⊎ (takes a.held.stage ≡ false) = elim c.else-not-held.branch [
      | else-not-held-via-then-not-held+else-takes_text w ↦ inr (sym w.takes_text.ensures ∙ w.if-takes_text.false)
      | else-not-held-via-else-not-held w ↦ inl (not-false _ w.if-not-held.false)
    ] in
    answer-ends m.table m.index m.line m.text m.reply a.held _ _ _ _ _ _ ends c.answer.ensures
