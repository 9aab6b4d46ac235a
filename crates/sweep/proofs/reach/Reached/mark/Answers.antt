-- Entries are listed by their directories, base files' entries followed, and then those of every heading reached.
-- At the start nothing is marked and nothing waits.
use Rattle.sweep.proofs.Marks.{held_none, waits-begun}
use Rattle.sweep.proofs.Lists.{listed-none}
use Rattle.sweep.proofs.reach.Reached.mark.Goals as goal

pub list_entries-requires : goal.list_entries-requires
list_entries-requires c = (c.requires.0, listed-none c.args.table.now c.requires.0)

pub reach_bases-requires : goal.reach_bases-requires
reach_bases-requires c = (c.requires.0, held_none c.args.table.now c.args.self.now c.requires.1 c.requires.3 c.requires.2)

pub reach_on-requires : goal.reach_on-requires
reach_on-requires c =
    let r = c.reach_bases.ensures in
    (c.requires.0, c.list_entries.ensures, r.0, waits-begun _ c.args.self.now c.requires.1 c.requires.3 _ r.1, r.2)
