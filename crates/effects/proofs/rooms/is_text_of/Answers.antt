-- The kind is read where it stands, and then the heading;
-- these are the two tests of the definition.
use borrow.Author.Tests.{ne_eqb}
use Rattle.effects.proofs.Places.{kind-here}
use Rattle.effects.proofs.rooms.is_text_of.Goals as goal

pub returns-then-table-i-eq-KIND : goal.returns-then-table-i-eq-KIND
returns-then-table-i-eq-KIND c =
    let a = c.args in
    rw (kind-here a.table.now a.i, c.if-table-i-eq-KIND.true, ← c.heading_of.ensures.0) c.eq.ensures

pub returns-else-table-i-eq-KIND : goal.returns-else-table-i-eq-KIND
returns-else-table-i-eq-KIND c =
    let a = c.args in
    rw (kind-here a.table.now a.i, ne_eqb _ _ c.if-table-i-eq-KIND.false)
