-- Each return is one case of `dpr_at`: 14, 21, or the store made.
-- The heading is in the table, so that its record is whole.
use Rattle.answers.specs.Shown.{place_meant}
use Rattle.elephant.proofs.Changes.{dpr-shut, dpr-lacks, dpr-laid}
use Rattle.elephant.proofs.change.dpr_at.Goals as goal

pub returns-then-inhibits_write : goal.returns-then-inhibits_write
returns-then-inhibits_write c =
    let a = c.args in
    dpr-shut a.table.now (place_meant a.place) a.stop a.code a.f (rw c.inhibits_write.ensures at c.if-inhibits_write.true)

pub returns-then-lacks : goal.returns-then-lacks
returns-then-lacks c =
    let a = c.args in
    let i = rw c.inhibits_write.ensures at c.if-inhibits_write.false in
    rw c.whole.ensures
    (dpr-lacks a.table.now (place_meant a.place) a.stop a.code a.f i c.heading_named-heading.result.0 c.heading_named-heading.ensures.0
    (rw (c.lacks.ensures, c.heading_code.ensures) at c.if-lacks.true))

pub returns : goal.returns
returns c =
    let a = c.args in
    let i = rw c.inhibits_write.ensures at c.if-inhibits_write.false in
    let k = rw (c.lacks.ensures, c.heading_code.ensures) at c.if-lacks.false in
    rw c.stored.ensures
    (dpr-laid a.table.now (place_meant a.place) a.stop a.code a.f i c.heading_named-heading.result.0 c.heading_named-heading.ensures.0 k
    c.recoded-bytes.result _ _ c.requires.heading c.recoded-bytes.ensures c.put.ensures)
