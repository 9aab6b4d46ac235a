-- At turn m the cursor stands at new record m, and the list is that of the m new records before it.
-- The next free record past record m is record m + 1, so each turn lists one more; as many as there are places are all.
use mathlib.Core.Path.{◌≡◌}
use Rattle.paper.specs.Table.{room}
use Rattle.effects.specs.Listed.{free_rooms}
use Rattle.effects.proofs.rooms.free_rooms.Given as goal

abbrev pub invariant-loop-m : goal.invariant-loop-m
invariant-loop-m l = (l.rooms ≡ free_rooms l.table l.m) × (l.next ≡ room l.table l.m)
