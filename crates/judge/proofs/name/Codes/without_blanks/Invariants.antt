-- A blank at the end is padding, so the name stays what it is; where there is none every code is a character.
-- The number is not 0, so it has a code left.
use mathlib.Core.Path.{◌≡◌}
use Prim.Native.Nat.{◌^◌, ◌≤◌, ◌<◌}
use Rattle.paper.specs.Layout.{unpacking, unpacked}
use Rattle.judge.proofs.name.Codes.without_blanks.Given as goal

abbrev pub invariant-loop-value : goal.invariant-loop-value
invariant-loop-value l = (unpacking l.count l.value ≡ unpacked l.x) × (0 < l.value) × (l.value < 64 ^ l.count) × (l.count ≤ 10)

abbrev pub decreases-loop-value : goal.decreases-loop-value
decreases-loop-value l = l.count
