-- What is left to walk is the whole walk: a word's name is followed where another is joined to it. The link's number stays below
-- what was passed of the line, in which every joining colon stands, and the measure is what is left of it.
use mathlib.Core.Path.{◌≡◌}
use Prim.Native.Nat.{◌+◌, ◌-◌, ◌≤◌}
use lib.ListN.{length}
use Rattle.paper.specs.Layout.{boxed}
use Rattle.paper.specs.Walk.{to_directory}
use Rattle.words.specs.Place.{names_from}
use Rattle.walk.specs.Shown.{meant}
use Rattle.walk.proofs.chain.follow_names.Given as goal

abbrev pub invariant-loop-q : goal.invariant-loop-q
invariant-loop-q l =
    let whole = to_directory boxed l.table l.link (meant l.initial.state) (names_from l.line l.p) in
    (to_directory boxed l.table l.k (meant l.state) (names_from l.line l.i) ≡ whole) × (l.k ≤ l.i + 2)

abbrev pub decreases-loop-q : goal.decreases-loop-q
decreases-loop-q l = length l.line - l.i
