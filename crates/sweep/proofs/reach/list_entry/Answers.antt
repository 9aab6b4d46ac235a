-- A record that is no entry, or an entry whose directory is no heading, leaves the list as it is;
-- any other is put at the end of its directory's.
use Rattle.std.proofs.Common.{sym, ◌∙◌}
use Rattle.sweep.proofs.Marks.{heading_room}
use Rattle.sweep.proofs.Lists.{listed_in}
use Rattle.sweep.proofs.reach.list_entry.Goals as goal

pub returns-then-kind_of-eq-KIND-2 : goal.returns-then-kind_of-eq-KIND-2
returns-then-kind_of-eq-KIND-2 c =
    let g = sym c.kind_of-then-kind_of-eq-KIND.ensures ∙ c.if-kind_of-eq-KIND-2.true in
    let k = sym c.kind_of.ensures ∙ c.if-kind_of-eq-KIND.true in
    let room = heading_room c.args.table.now c.holder_of-holder.result.0 c.requires.1 g in
    listed_in c.args.table.now c.args.i c.args.list.now c.requires.2 c.holder_of-holder.result.0 room g k (sym c.holder_of-holder.ensures.0) c.requires.0
