-- Each return is one case of `chn_at`: 14, 16, or the store made.
-- The entry is in the table, so that its record is whole, and the name is short.
use Rattle.answers.specs.Shown.{place_meant}
use Rattle.elephant.proofs.Changes.{chn-shut, chn-taken, chn-laid}
use Rattle.elephant.proofs.change.chn_at.Goals as goal

pub returns-then-inhibits_write : goal.returns-then-inhibits_write
returns-then-inhibits_write c =
    let a = c.args in
    chn-shut a.table.now (place_meant a.place) a.stop a.name.now a.ends (rw c.inhibits_write.ensures at c.if-inhibits_write.true)

pub returns-then-is_some : goal.returns-then-is_some
returns-then-is_some c =
    let a = c.args in
    let i = rw c.inhibits_write.ensures at c.if-inhibits_write.false in
    rw c.whole.ensures
    (chn-taken a.table.now (place_meant a.place) a.stop a.name.now a.ends i (rw (c.is_some.ensures, c.find.ensures) at c.if-is_some.true))

pub returns : goal.returns
returns c =
    let a = c.args in
    let i = rw c.inhibits_write.ensures at c.if-inhibits_write.false in
    rw c.stored.ensures
    (chn-laid a.table.now (place_meant a.place) a.stop a.name.now a.ends i (rw (c.is_some.ensures, c.find.ensures) at c.if-is_some.false)
    c.renamed-bytes.result _ _ c.requires.0.entry c.requires.1 c.renamed-bytes.ensures c.put.ensures)
