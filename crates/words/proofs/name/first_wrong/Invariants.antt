-- The first wrong name from i on, counted from k, is the chain's: a link name that is joined leads on, the last one leaves none.
-- The measure is what is left of the line.
use Prim.Native.Nat.{◌+◌, ◌-◌, ◌≤◌}
use mathlib.Core.Path.{◌≡◌}
use lib.ListN.{length}
use Rattle.paper.specs.Request.{first_wrong, first_link}
use Rattle.words.specs.Place.{names_from}
use Rattle.words.proofs.name.first_wrong.Given as goal

abbrev pub invariant-loop-i : goal.invariant-loop-i
invariant-loop-i l =
    (first_wrong l.k (names_from l.line l.i) ≡ first_wrong (first_link (names_from l.line l.p)) (names_from l.line l.p))
    × (1 ≤ l.k) × (l.k ≤ l.i + 2)

abbrev pub decreases-loop-i : goal.decreases-loop-i
decreases-loop-i l = length l.line - l.i
