-- After i turns the records below i with the mark are cleared as far as the stop number allows, and all of them are counted.
-- Each turn adds one record; at the end these are all records.
use Rattle.std.proofs.Common.{◌+◌, ◌≤◌}
use Rattle.paper.specs.Store.{clears}
use Rattle.effects.specs.Counted.{Counted}
use Rattle.sweep.specs.Lost.{mark_number, has_mark}
use Rattle.sweep.proofs.stores.clear_marked.Given as goal

abbrev pub invariant-loop-i : goal.invariant-loop-i
invariant-loop-i l = Counted l.initial.table l.table l.stop l.before l.needed (clears (has_mark l.lost (mark_number l.mark)) l.i)
    × (l.needed ≤ l.before + l.i)
