-- The reach from the place arrived at is the reach from p:
-- each byte before it passed.
use mathlib.Core.Path.{◌≡◌}
use Rattle.words.specs.Place.{is_plain, reach}
use Rattle.words.proofs.class.name_end.Given as goal

abbrev pub invariant-loop-i : goal.invariant-loop-i
invariant-loop-i l = reach is_plain l.line l.i ≡ reach is_plain l.line l.p
