-- 13, 14 and 15 are the plan's first checks, in that order: each refuses, or the plan ends as without it.
-- The heading that the old entry names is read before any store.
use Rattle.elephant.proofs.Walking.{copy-first, copy-second, copy-third, copy-ends}
use mathlib.Core.Path.{ap}
use mathlib.Core.Bool.{not}
use Rattle.elephant.proofs.copying.cpy_in.Goals as goal

pub returns-then-inhibits_read : goal.returns-then-inhibits_read
returns-then-inhibits_read c =
    copy-first c.args.table.now c.args.stop _ _ _ _ (rw c.inhibits_read.ensures at c.if-inhibits_read.true)

pub returns-then-inhibits_write : goal.returns-then-inhibits_write
returns-then-inhibits_write c =
    rw (c.end-place.ensures, c.own.ensures)
    (copy-second c.args.table.now c.args.stop _ _ _ _ (rw c.inhibits_read.ensures at c.if-inhibits_read.false)
    (rw c.inhibits_write.ensures at c.if-inhibits_write.true))

pub returns-then-not-is_simple : goal.returns-then-not-is_simple
returns-then-not-is_simple c =
    copy-third c.args.table.now c.args.stop _ _ _ _ (rw c.inhibits_read.ensures at c.if-inhibits_read.false)
    (rw c.inhibits_write.ensures at c.if-inhibits_write.false)
    (rw (c.is_simple.ensures, c.heading_named-source.ensures.0) at (ap not c.if-not-is_simple.true))

pub returns : goal.returns
returns c =
    let a = c.args in
    copy-ends a.table.now a.stop _ _ _ _ _ _ (rw c.inhibits_read.ensures at c.if-inhibits_read.false)
    (rw c.inhibits_write.ensures at c.if-inhibits_write.false)
    (rw (c.is_simple.ensures, c.heading_named-source.ensures.0) at (ap not c.if-not-is_simple.false))
    (rw c.heading_named-source.ensures.0 at c.copy.ensures)
