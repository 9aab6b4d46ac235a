-- Past the table there is no record; else its kind is read from it, and whether it stays from its mark.
-- So a number past the end names no heading.
use native.Mathlib.Omega.{arith}
use Rattle.std.proofs.lemmas.Grind.{common_steps}
use Rattle.judge_laws.proofs.Mask.{heading-without}
use Rattle.laws.proofs.Lay.{rec-past}
use Rattle.judge.proofs.heading.is_heading.Goals as goal

pub returns-then-raw_of-eq-KIND : goal.returns-then-raw_of-eq-KIND
returns-then-raw_of-eq-KIND c =
    let a = c.args in
    grind (arith, common_steps, heading-without a.gone.now a.t.now (omega arith) a.h)

pub returns-else-raw_of-eq-KIND : goal.returns-else-raw_of-eq-KIND
returns-else-raw_of-eq-KIND c =
    let a = c.args in
    grind (arith, common_steps, heading-without a.gone.now a.t.now (omega arith) a.h, rec-past a.t.now a.h (omega arith))
