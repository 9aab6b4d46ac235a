-- 14 is the plan's first check: it refuses, or the plan ends as without it.
-- The code of the directory is what the walk joined.
use mathlib.Core.List.{[]}
use Rattle.paper.specs.Request.{own}
use Rattle.elephant.proofs.Walking.{shut-refused, open-ends}
use Rattle.elephant.proofs.making.file_in.Goals as goal

pub returns-then-inhibits_write : goal.returns-then-inhibits_write
returns-then-inhibits_write c =
    rw (c.end-place.ensures, c.own.ensures)
    (shut-refused c.args.table.now c.args.stop _ [] (rw c.inhibits_write.ensures at c.if-inhibits_write.true))

pub returns : goal.returns
returns c =
    open-ends c.args.table.now c.args.stop _ own _ _ (rw c.inhibits_write.ensures at c.if-inhibits_write.false) c.file.ensures
