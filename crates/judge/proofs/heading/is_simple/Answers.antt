-- Kind and type are read from the record, and whether it stays from its mark.
-- A record that goes is no heading.
use native.Mathlib.Omega.{arith}
use Rattle.std.proofs.lemmas.Grind.{common_steps}
use Rattle.judge_laws.proofs.Mask.{simple-without}
use Rattle.judge.proofs.heading.is_simple.Goals as goal

pub returns-then-is_of_type : goal.returns-then-is_of_type
returns-then-is_of_type c =
    let a = c.args in
    grind (arith, common_steps, simple-without a.gone.now a.t.now (omega arith) a.i)

pub returns-else-is_of_type : goal.returns-else-is_of_type
returns-else-is_of_type c =
    let a = c.args in
    grind (arith, common_steps, simple-without a.gone.now a.t.now (omega arith) a.i)
