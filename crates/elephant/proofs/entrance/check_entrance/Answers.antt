-- The judge's number where it refuses, then the user's test: the first of the three checks that holds.
-- A number of the judge that refuses nothing is 0.
use native.Mathlib.Omega.{arith}
use Rattle.judge.proofs.Numbers.{judged-none}
use Rattle.elephant.proofs.Entering.{entered-judged, entered-over, entered-user}
use Rattle.elephant.proofs.entrance.check_entrance.Goals as goal

pub returns-in-Ok : goal.returns-in-Ok
returns-in-Ok c =
    let a = c.args in
    let n = c.in-Ok.ensures {u = tt} in
    rw (c.whole.ensures, n.0) (entered-judged a.table.now a.user c.judge.result c.judge.ensures (λ z. omega (arith, n.1)))

pub returns-then-user-gt-LAST_USER : goal.returns-then-user-gt-LAST_USER
returns-then-user-gt-LAST_USER c =
    let a = c.args in
    let none = judged-none a.table.now c.judge.result c.judge.ensures (c.in_default.ensures {u = tt}) in
    rw c.whole-then-user-gt-LAST_USER.ensures (entered-over a.table.now a.user c.judge.result c.judge.ensures none (omega arith))

pub returns : goal.returns
returns c =
    let a = c.args in
    let none = judged-none a.table.now c.judge.result c.judge.ensures (c.in_default.ensures {u = tt}) in
    entered-user a.table.now a.user c.judge.result c.judge.ensures none (omega arith)
