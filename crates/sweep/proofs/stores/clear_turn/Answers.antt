-- A record without the mark adds no store; one with it adds one, which is made while the stop number is not reached.
-- These are the cases of the stage.
use Rattle.std.proofs.Common.{sym, ◌∙◌, arith}
use borrow.Author.Tests.{eq-eqb, ne_eqb}
use Rattle.effects.proofs.Counted.{counted_none, counted-one, counted-stopped}
use Rattle.sweep.proofs.Cleared.{mark_tag}
use Rattle.sweep.proofs.stores.clear_turn.Goals.{then-needed-stop, else-needed-stop}
use Rattle.sweep.proofs.stores.clear_turn.Goals as goal

pub returns-then-lost-i : goal.returns-then-lost-i
returns-then-lost-i c = (rw (ne_eqb _ _ (λ q. c.if-lost-i.true (q ∙ sym (mark_tag c.args.mark)))) (counted_none _ _ _), omega arith)

pub returns : goal.returns
returns c =
    let m = eq-eqb _ _ (c.if-lost-i.false ∙ mark_tag c.args.mark) in (
      rw m (elim c.if-needed-stop.branch [
        | then-needed-stop w ↦ rw w.table-is (counted-one _ _ _ _ _ _ (omega (arith, w.if-needed-stop.true)) w.clear.ensures)
        | else-needed-stop w ↦ rw w.table-is (counted-stopped _ _ _ _ _ (omega (arith, w.if-needed-stop.false)))
      ]),
      omega arith,
    )
