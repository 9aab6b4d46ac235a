-- Past the table there is no record; else kind and type are read from it, and whether it stays from its mark.
-- So a number past the end names no directory.
use native.Mathlib.Omega.{arith}
use Rattle.std.proofs.lemmas.Grind.{common_steps}
use Rattle.judge_laws.proofs.Mask.{directory-without}
use Rattle.laws.proofs.Lay.{rec-past}
use Rattle.judge.proofs.heading.is_directory.Goals as goal

pub returns-then-is_of_type : goal.returns-then-is_of_type
returns-then-is_of_type c =
    let a = c.args in
    grind (arith, common_steps, directory-without a.gone.now a.t.now (omega arith) a.h)

pub returns-else-is_of_type : goal.returns-else-is_of_type
returns-else-is_of_type c =
    let a = c.args in
    grind (arith, common_steps, directory-without a.gone.now a.t.now (omega arith) a.h, rec-past a.t.now a.h (omega arith))
