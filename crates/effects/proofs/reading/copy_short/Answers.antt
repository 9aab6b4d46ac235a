-- As many bytes as fit take the place of those that stood there; the others would be stored past the end, where a store changes nothing.
-- So it is from a place past the end.
use mathlib.Core.Path.{refl, sym, ◌∙◌}
use native.Mathlib.Omega.{arith}
use lib.ListN.{length-set}
use lib.Seq.{take_all}
use Rattle.records.proofs.Copies.{fit_length, fit-sets, sets-out, sets_more}
use Rattle.effects.proofs.reading.copy_short.Goals as goal

pub loop-j-init : goal.loop-j-init
loop-j-init c =
    (refl, refl, fit_length c.args.into.now c.args.piece.now c.part-fit.result.now c.args.at c.part-fit.ensures (omega arith))

pub loop-j-preserved : goal.loop-j-preserved
loop-j-preserved c = (
  rw c.loop-j.invariant.0 (sets_more c.part-fit.result.now _ _ c.loop-j.j (omega arith)),
  rw length-set c.loop-j.invariant.1,
  omega arith,
)

pub returns-after-loop-j : goal.returns-after-loop-j
returns-after-loop-j c =
    c.loop-j.invariant.0
    ∙ rw (take_all c.loop-j.j c.part-fit.result.now (omega arith))
    (fit-sets c.args.into.now c.args.piece.now c.part-fit.result.now c.args.at c.part-fit.ensures)

pub returns-else-at-into : goal.returns-else-at-into
returns-else-at-into c = sym (sets-out c.args.piece.now c.args.into.now c.args.at c.if-at-into.false)
