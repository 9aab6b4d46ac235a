-- A line that has begun, or waits for its text, is answered;
-- else there is nothing to answer.
use mathlib.Core.Bool.{true}
use mathlib.Core.Logic.{◌⊎◌, inl, inr}
use mathlib.Core.Path.{◌≡◌}
use Prim.Native.Nat.{◌<◌}
use Rattle.filebox.proofs.Steps.{answer-finishes, nothing-finishes}
use Rattle.filebox.proofs.service.finish.Goals as goal

pub returns-then-held-gt0 : goal.returns-then-held-gt0
returns-then-held-gt0 c =
    let a = c.args in
    let m = a.memory.now in
    let begun : (a.held.asked ≡ true) ⊎ (0 < a.held.line) = elim c.if-held-gt0.either [ inl e ↦ inl e | inr e ↦ inr e.1 ] in
    answer-finishes m.table m.index m.line m.text m.reply a.held _ _ _ _ _ _ begun c.answer.ensures

pub returns-else-held-gt0 : goal.returns-else-held-gt0
returns-else-held-gt0 c =
    let a = c.args in
    let m = a.memory.now in
    nothing-finishes m.table m.index m.line m.text m.reply a.held c.if-held-gt0.false.0 c.if-held-gt0.false.1
