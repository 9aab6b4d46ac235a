-- The names passed and those left are the names of the word and one: a joined name is one of those left. The measure is what is
-- left of the line, in which every joining colon stands.
use Prim.Native.Nat.{◌+◌, ◌-◌, ◌≤◌}
use mathlib.Core.Path.{◌≡◌}
use lib.ListN.{length}
use Rattle.words.specs.Place.{names_from}
use Rattle.words.proofs.name.count_names.Given as goal

abbrev pub invariant-loop-q : goal.invariant-loop-q
invariant-loop-q l = (l.n + length (names_from l.line l.i) ≡ length (names_from l.line l.p) + 1) × (l.n ≤ l.i + 1)

abbrev pub decreases-loop-q : goal.decreases-loop-q
decreases-loop-q l = length l.line - l.i
