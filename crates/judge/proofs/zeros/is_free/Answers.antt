-- Four numbers of eight bytes that are 0 have no byte that is not.
-- One that is not 0 refutes the zeros.
use native.Mathlib.Omega.{arith}
use Rattle.std.proofs.lemmas.Grind.{common_steps}
use Rattle.paper.specs.Table.{rec}
use Rattle.judge_laws.proofs.Shapes.{zeros-none, zeros-more, zeros-refuted}
use Rattle.judge.proofs.zeros.is_free.Goals as goal

pub returns-then-eight_of-eq0-3 : goal.returns-then-eight_of-eq0-3
returns-then-eight_of-eq0-3 c =
    let r = rec c.args.t.now c.args.i in
    let z = zeros-none 0 r in
    grind (arith, common_steps, zeros-more 0 0 8 r, zeros-more 0 8 8 r, zeros-more 0 16 8 r, zeros-more 0 24 8 r, zeros-refuted 0 32 8 24 r)

pub returns-else-eight_of-eq0-3 : goal.returns-else-eight_of-eq0-3
returns-else-eight_of-eq0-3 c =
    let r = rec c.args.t.now c.args.i in
    grind (arith, common_steps, zeros-refuted 0 32 8 0 r, zeros-refuted 0 32 8 8 r, zeros-refuted 0 32 8 16 r)
