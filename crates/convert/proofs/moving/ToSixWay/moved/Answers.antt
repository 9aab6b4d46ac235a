-- The record is in the table and the old name has at most 10 characters:
-- so neither is padded or cut.
use mathlib.Core.Path.{◌∙◌}
use Rattle.paper.specs.Table.{rec}
use Rattle.records.proofs.Builds.{whole-there}
use Rattle.convert.proofs.Names.{old-taken}
use Rattle.convert.proofs.moving.ToSixWay.moved.Goals as goal

pub returns : goal.returns
returns c =
    let t = c.args.table.now in
    let i = c.args.room.0 in
    c.renamed.ensures ∙ rw (c.old_name.ensures, whole-there t i c.requires, old-taken (rec t i))
