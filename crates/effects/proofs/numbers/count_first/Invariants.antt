-- After i turns each record's number is of those of the first i records that are counted for it.
-- It is at most i, so that it fits its two bytes.
use Prim.Native.Nat.{ℕ, ◌≤◌}
use mathlib.Core.Bool.{Bool}
use lib.ListN.{get_or}
use Rattle.paper.specs.Scan.{count_below}
use Rattle.records.specs.Numbered.{Numbered}
use Rattle.effects.specs.Tally.{Says}
use Rattle.effects.proofs.numbers.count_first.Given as goal

abbrev pub invariant-loop-i : goal.invariant-loop-i
invariant-loop-i g l = record {
  counted : (is : ℕ → ℕ → Bool) → Says (goal.F-post g l.of) is l.i → Numbered (λ h. count_below (λ j. is j h) l.i) l.counts;
  few : (h : ℕ) → get_or l.counts h 0 ≤ l.i;
}
