-- `are_twins` compares place, user and name in turn: each difference refutes the test, and the names are what is left of it.
-- The kind of the second is known to its caller.
use native.Mathlib.Omega.{arith}
use Rattle.std.proofs.lemmas.Grind.{common_steps}
use Rattle.paper.specs.Table.{rec}
use Rattle.judge_laws.proofs.Twins.{twin-not-place, twin-not-user, twin-name}
use Rattle.judge.proofs.twins.are_twins.Goals as goal

pub returns-then-three_of : goal.returns-then-three_of
returns-then-three_of c =
    let t = c.args.t.now in
    grind (arith, common_steps, twin-name (rec t c.args.i) (rec t c.args.k) c.requires.2)

pub returns-else-three_of : goal.returns-else-three_of
returns-else-three_of c =
    let t = c.args.t.now in
    grind (arith, common_steps, twin-not-place (rec t c.args.i) (rec t c.args.k), twin-not-user (rec t c.args.i) (rec t c.args.k))
