-- The record has 32 bytes, so that the name's field, copied from its place on, ends where they end:
-- what stands before it stays, and nothing is left behind it.
use mathlib.Core.Path.{◌∙◌}
use Rattle.paper.specs.Table.{rec}
use Rattle.laws.proofs.Lay.{length-rec}
use Rattle.records.proofs.Builds.{whole-there}
use Rattle.convert.proofs.Names.{old-end}
use Rattle.convert.proofs.old.old_record.Goals as goal

pub returns : goal.returns
returns c =
    let t = c.args.table.now in
    let i = c.args.room.0 in
    c.copy_in.ensures
    ∙ rw (c.old_field-field.ensures, c.whole-r.ensures, whole-there t i c.requires.0)
    (old-end (rec t i) c.args.name.now (length-rec t i c.requires.0) c.requires.1)
