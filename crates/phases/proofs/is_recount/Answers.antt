-- The parts compared are the bytes before the counts and all those after them,
-- which the definition takes to the record's end.
use mathlib.Core.Bool.{true}
use mathlib.Core.Path.{◌≡◌, sym, ◌∙◌}
use borrow.Author.Tests.{eqb-true}
use Rattle.paper.specs.Name.{same}
use Rattle.disk.proofs.Phases.{counts-back}
use Rattle.phases.proofs.is_recount.Goals as goal
use Rattle.phases.proofs.is_recount.Goals.{then-byte_at-eq-KIND, else-byte_at-eq-KIND}

pub returns-then-are_same : goal.returns-then-are_same
returns-then-are_same c =
    let a = c.args in
    let on = c.if-are_same.true in
    elim c.if-byte_at-eq-KIND.branch [
      | then-byte_at-eq-KIND w ↦
          let z : same w.part.result.now w.part-then-byte_at-eq-KIND.result.now ≡ true = sym w.are_same.ensures ∙ sym w.value-is ∙ on in
          let k = sym c.byte_at.ensures ∙ w.if-byte_at-eq-KIND.true in
          c.are_same-then-are_same.ensures
          ∙ rw (c.part-then-are_same.ensures, c.part-then-are_same-2.ensures)
          (sym (counts-back a.before.now a.after.now k (rw (w.part.ensures, w.part-then-byte_at-eq-KIND.ensures) at z)))
      | else-byte_at-eq-KIND w ↦ absurd (w.if-byte_at-eq-KIND.false (eqb-true _ _ (sym w.value-is ∙ on)))
    ]
