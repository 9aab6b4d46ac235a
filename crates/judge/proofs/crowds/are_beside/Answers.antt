-- `are_beside` compares the places, then the users: what `stands` says of an entry.
-- The kind of the second is known to its caller.
use mathlib.Core.Path.{sym, ◌∙◌}
use borrow.Author.Tests.{ne_eqb}
use Rattle.paper.specs.Table.{rec}
use Rattle.judge_laws.proofs.Crowds.{beside-not, beside-user}
use Rattle.judge.proofs.crowds.are_beside.Goals as goal

pub returns-then-two_of : goal.returns-then-two_of
returns-then-two_of c =
    let a = c.args in
    sym (beside-user (rec a.t.now a.i) (rec a.t.now a.k) c.requires.2
    (sym c.two_of.ensures.0 ∙ c.if-two_of.true ∙ c.two_of-2.ensures.0)
    ∙ rw (← c.three_of-then-two_of.ensures.0, ← c.three_of.ensures.0))

pub returns-else-two_of : goal.returns-else-two_of
returns-else-two_of c =
    let a = c.args in
    ne_eqb _ _ c.if-two_of.false ∙ sym (beside-not (rec a.t.now a.i) (rec a.t.now a.k)
    (λ q. c.if-two_of.false (c.two_of.ensures.0 ∙ q ∙ sym c.two_of-2.ensures.0)))
