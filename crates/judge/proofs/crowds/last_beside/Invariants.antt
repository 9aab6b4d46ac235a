-- The walk down a bucket has passed no entry of the place, and all of them are in the bucket, which has only entries that stay.
-- So what it meets first is the last of them, and at the end there is none.
use Rattle.judge_laws.specs.Crowds.{place_of, beside_to}
use Rattle.judge_laws.specs.Mask.{without}
use Rattle.judge_laws.proofs.Chains.{Walk}
use Rattle.judge.proofs.crowds.last_beside.Given as goal

abbrev pub invariant-loop-c : goal.invariant-loop-c
invariant-loop-c l = Walk place_of (without l.gone l.t) (beside_to (without l.gone l.t) l.i) l.i l.c

abbrev pub decreases-loop-c : goal.decreases-loop-c
decreases-loop-c l = l.c
