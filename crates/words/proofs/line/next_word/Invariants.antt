-- The word after the one at i is the word after the one at p: a name that is joined leads on, and past the last name
-- and its blanks the next word starts. The measure is what is left of the line.
use Prim.Native.Nat.{◌-◌}
use mathlib.Core.Path.{◌≡◌}
use lib.ListN.{length}
use Rattle.words.specs.Place.{next_word}
use Rattle.words.proofs.line.next_word.Given as goal

abbrev pub invariant-loop-q : goal.invariant-loop-q
invariant-loop-q l = next_word l.line l.i ≡ next_word l.line l.p

abbrev pub decreases-loop-q : goal.decreases-loop-q
decreases-loop-q l = length l.line - l.i
