-- The place arrived at is where word n starts, which is in the line as long as there is a word n. The measure is what is left
-- of the line, as each word starts later than the one before it.
use Prim.Native.Nat.{◌-◌, ◌≤◌}
use mathlib.Core.Path.{◌≡◌}
use lib.ListN.{length}
use Rattle.paper.specs.Line.{word, words}
use Rattle.words.proofs.line.count_words.Given as goal

abbrev pub invariant-loop-p : goal.invariant-loop-p
invariant-loop-p l = (l.p ≡ (word l.line l.n).start) × (l.n ≤ l.p) × (l.n ≤ length (words l.line))

abbrev pub decreases-loop-p : goal.decreases-loop-p
decreases-loop-p l = length l.line - l.p
