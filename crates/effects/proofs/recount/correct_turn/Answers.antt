-- What is no heading, or says these counts, adds no store; a heading that says others adds one, made while the stop number is not reached.
-- These are the cases of the stage.
use mathlib.Core.Path.{sym, ap, ◌∙◌}
use native.Mathlib.Omega.{arith}
use Rattle.paper.specs.Table.{rec, lay}
use Rattle.effects.proofs.Corrected.{corrects-other, corrects-none, corrects-one}
use Rattle.effects.proofs.Counted.{counted_none, counted-one, counted-stopped}
use Rattle.effects.proofs.recount.correct_turn.Goals as goal
use Rattle.effects.proofs.recount.correct_turn.Goals.{then-needed-stop, else-needed-stop, then-kind_of-ne-KIND-via-then-kind_of-ne-KIND}
use Rattle.effects.proofs.recount.correct_turn.Goals.{then-kind_of-ne-KIND-via-else-kind_of-ne-KIND+then-is_told}

pub returns-then-kind_of-ne-KIND : goal.returns-then-kind_of-ne-KIND
returns-then-kind_of-ne-KIND c =
    let a = c.args in
    let r = rec a.table.now a.i in
    elim c.then-kind_of-ne-KIND.branch [
      | then-kind_of-ne-KIND-via-then-kind_of-ne-KIND w ↦
          (rw (corrects-other a.named a.held a.i r (λ q. w.if-kind_of-ne-KIND.true (c.kind_of.ensures ∙ q))) (counted_none _ _ _), omega arith)
      | then-kind_of-ne-KIND-via-else-kind_of-ne-KIND+then-is_told w ↦
          (rw (corrects-none a.named a.held a.i r (sym w.is_told.ensures ∙ w.if-is_told.true)) (counted_none _ _ _), omega arith)
    ]

pub returns : goal.returns
returns c =
    let a = c.args in
    let r = rec a.table.now a.i in
    let one = corrects-one a.named a.held a.i r (sym c.kind_of.ensures ∙ c.if-kind_of-ne-KIND.false) (sym c.is_told.ensures ∙ c.if-is_told.false) in
    elim c.if-needed-stop.branch [
      | then-needed-stop w ↦
          let e = w.store.ensures ∙ ap (lay a.table.now a.i) w.counted-bytes.ensures in
          (rw (one, w.table-is) (counted-one _ _ _ _ _ _ w.if-needed-stop.true e), omega arith)
      | else-needed-stop w ↦ (rw (one, w.table-is) (counted-stopped _ _ _ _ _ w.if-needed-stop.false), omega arith)
    ]
