-- The walk down a bucket has passed no twin, and all twins are in the bucket, which has only entries that stay.
-- So what it meets first is the last twin, and at the end there is none; where the steps do not last nothing is said.
use Prim.Native.Nat.{◌≤◌}
use Rattle.judge_laws.specs.Mask.{without}
use Rattle.judge_laws.specs.Twins.{twin_to, hash_of}
use Rattle.judge_laws.proofs.Chains.{Walk}
use Rattle.judge.proofs.twins.twin_before.Given as goal

abbrev pub invariant-loop-c : goal.invariant-loop-c
invariant-loop-c l = Walk hash_of (without l.gone l.t) (twin_to (without l.gone l.t) l.i) l.i l.c × (l.left ≤ l.steps)

abbrev pub decreases-loop-c : goal.decreases-loop-c
decreases-loop-c l = l.c
