-- Each return is one case of `rewrite_at`: 14, 15, 19, 24, or the stores made.
-- The heading is in the table, so that its record is whole; there are at most 2,002 stores.
use mathlib.Core.Path.{sym, ◌∙◌}
use native.Mathlib.Omega.{arith}
use borrow.Author.Tests.{eq-eqb, ne_eqb}
use Rattle.answers.specs.Shown.{place_meant}
use Rattle.elephant.proofs.Rewrites.{rewrite-few, rewrite-shut, rewrite-wrong, rewrite-short, rewrite-long, rewrite-laid}
use mathlib.Core.Path.{ap}
use mathlib.Core.Bool.{not}
use Rattle.elephant.proofs.rewriting.rewrite_at.Goals as goal

pub returns-then-inhibits_write : goal.returns-then-inhibits_write
returns-then-inhibits_write c =
    let a = c.args in
    rewrite-shut a.table.now a.text.now (place_meant a.place) a.stop a.f
    (rw c.inhibits_write.ensures at c.if-inhibits_write.true)

pub returns-then-not-is_simple : goal.returns-then-not-is_simple
returns-then-not-is_simple c =
    let a = c.args in
    let i = rw c.inhibits_write.ensures at c.if-inhibits_write.false in
    (rewrite-wrong a.table.now a.text.now (place_meant a.place) a.stop a.f i c.heading_named-heading.result.0 c.heading_named-heading.ensures.0
    (rw c.is_simple.ensures at (ap not c.if-not-is_simple.true)))

pub returns-then-is_no_room : goal.returns-then-is_no_room
returns-then-is_no_room c =
    let a = c.args in
    let i = rw c.inhibits_write.ensures at c.if-inhibits_write.false in
    rw c.whole.ensures
    (rewrite-short a.table.now a.text.now (place_meant a.place) a.stop a.f i c.heading_named-heading.result.0 c.heading_named-heading.ensures.0
    (rw c.is_simple.ensures at (ap not c.if-not-is_simple.false))
    (rw c.is_no_room.ensures at c.if-is_no_room.true))

pub returns-then-lifetime_of-eq-LONG : goal.returns-then-lifetime_of-eq-LONG
returns-then-lifetime_of-eq-LONG c =
    let a = c.args in
    let i = rw c.inhibits_write.ensures at c.if-inhibits_write.false in
    (rewrite-long a.table.now a.text.now (place_meant a.place) a.stop a.f i c.heading_named-heading.result.0 c.heading_named-heading.ensures.0
    (rw c.is_simple.ensures at (ap not c.if-not-is_simple.false))
    (rw c.is_no_room.ensures at c.if-is_no_room.false)
    (eq-eqb _ _ (sym c.lifetime_of.ensures ∙ c.if-lifetime_of-eq-LONG.true)))

pub overflow_cast-stores : goal.overflow_cast-stores
overflow_cast-stores c =
    let p = c.requires.0 in
    let h = c.heading_named-heading in
    let few = rewrite-few c.args.table.now h.result.0 c.args.text.now p.fit (rw h.ensures.0 p.heading) (rw h.ensures.0 p.kind) c.requires.1 in
    omega (arith, c.rewrite_text-stores.ensures.number, few)

pub returns : goal.returns
returns c =
    let a = c.args in
    let i = rw c.inhibits_write.ensures at c.if-inhibits_write.false in
    rw c.stored.ensures
    (rewrite-laid a.table.now a.text.now (place_meant a.place) a.stop a.f i c.heading_named-heading.result.0 c.heading_named-heading.ensures.0
    (rw c.is_simple.ensures at (ap not c.if-not-is_simple.false))
    (rw c.is_no_room.ensures at c.if-is_no_room.false)
    (rw c.lifetime_of.ensures at (ne_eqb _ _ c.if-lifetime_of-eq-LONG.false)) _ _ c.rewrite_text-stores.ensures)
