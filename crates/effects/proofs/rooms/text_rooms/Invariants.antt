-- The list holds at each position the first text among the records before the present one, and the count is of those without.
-- Where none is without, and at the last record, that is the first of all, which is the one that the definition takes.
use Rattle.effects.specs.Listed.{Placed}
use Rattle.effects.proofs.rooms.text_rooms.Given as goal

abbrev pub invariant-loop-i : goal.invariant-loop-i
invariant-loop-i l = Placed l.table l.heading.0 l.last l.places l.left l.i
