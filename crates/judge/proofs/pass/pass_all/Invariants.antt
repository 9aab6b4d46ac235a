-- Every record passed is judged, and what is known is what the turns added.
-- The first turn that refuses refutes soundness.
use Rattle.judge_laws.specs.Pass.{Passed}
use Rattle.judge.proofs.pass.pass_all.Given as goal

abbrev pub invariant-loop-i : goal.invariant-loop-i
invariant-loop-i l = Passed l.gone l.t l.mark l.counts.named l.counts.held l.buckets.head l.buckets.next l.s.texts l.s.bases l.s.left l.i
