-- The reach from the place arrived at is the reach from p:
-- each byte before it passed.
use mathlib.Core.Path.{◌≡◌}
use Rattle.paper.specs.Line.{is_blank}
use Rattle.words.specs.Place.{reach}
use Rattle.words.proofs.class.past_blanks.Given as goal

abbrev pub invariant-loop-i : goal.invariant-loop-i
invariant-loop-i l = reach is_blank l.line l.i ≡ reach is_blank l.line l.p
