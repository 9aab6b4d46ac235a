-- The judge's number where it refuses, and else 26: the first of the three checks that holds.
-- Assumes nothing.
use Rattle.indexed.proofs.Refusals.{number-refused}
use Rattle.indexed.proofs.refuse.Goals as goal

pub returns : goal.returns
returns c =
    let n = number-refused c.args.table.now c.judge.result c.try_from.result c.judge.ensures c.try_from.ensures in
    rw (c.from.ensures, c.whole.ensures, c.unwrap_or-number.ensures, n)
