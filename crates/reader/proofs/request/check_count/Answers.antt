-- The two orders of the count against its bounds
-- decide the definition's two tests.
use mathlib.Core.Bool.{true, ◌&&◌, not}
use mathlib.Core.Path.{◌≡◌}
use lib.Dec.{leb}
use native.Mathlib.Omega.{arith}
use borrow.Author.Tests.{le-leb}
use Rattle.std.proofs.lemmas.Bool.Decides.{nat_tests}
use Rattle.paper.specs.Request.{counted, miscounted}
use Rattle.reader.proofs.Verdicts.{check-holds, check-passes}
use Rattle.reader.proofs.request.check_count.Goals as goal

pub returns-then-most-n : goal.returns-then-most-n
unfolding counted
returns-then-most-n c =
    let args = c.args in
    let n = c.arguments-n.result in
    let h : not (leb args.least n && leb n args.most) ≡ true = grind (arith, nat_tests, c.if-most-n.either) in
    rw c.whole.ensures (check-holds (miscounted args.least args.most args.line.now) (rw (← c.arguments-n.ensures) h))

pub returns-else-most-n : goal.returns-else-most-n
unfolding counted
returns-else-most-n c =
    let args = c.args in
    let n = c.arguments-n.result in
    check-passes (miscounted args.least args.most args.line.now)
    (rw (← c.arguments-n.ensures, le-leb args.least n (omega arith), le-leb n args.most (omega arith)))
