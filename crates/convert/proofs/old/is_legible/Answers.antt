-- Without a link name the entry is not legible;
-- with one, it is where it is the record that the name lays.
use mathlib.Core.Path.{sym, ◌∙◌}
use Rattle.paper.specs.Layout.{old}
use Rattle.paper.specs.Table.{rec}
use Rattle.layouts.proofs.Lengths.{old-short}
use Rattle.convert.proofs.Looked.{legible-no, legible-by}
use Rattle.convert.proofs.old.is_legible.Goals as goal

pub returns-else-is_link_name : goal.returns-else-is_link_name
returns-else-is_link_name c =
    let a = c.args in
    c.if-is_link_name.false ∙ legible-no old (rec a.table.now a.room.0) _ c.old_name-name.ensures (sym c.is_link_name.ensures ∙ c.if-is_link_name.false)

pub old_record-requires : goal.old_record-requires
old_record-requires c =
    (c.requires, rw c.old_name-name.ensures (old-short (rec c.args.table.now c.args.room.0)))

pub returns-then-is_link_name : goal.returns-then-is_link_name
returns-then-is_link_name c =
    let a = c.args in
    c.are_same.ensures
    ∙ rw (c.record_at.ensures, c.old_record.ensures)
    (legible-by old (rec a.table.now a.room.0) _ c.old_name-name.ensures (sym c.is_link_name.ensures ∙ c.if-is_link_name.true))
