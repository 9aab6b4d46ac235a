-- The base files' entries below i are followed, at every turn.
-- Each turn follows one more.
use Rattle.sweep.specs.Marked.{Held, Grown, Based}
use Rattle.sweep.proofs.reach.Reached.reach_bases.Given as goal

abbrev pub invariant-loop-i : goal.invariant-loop-i
invariant-loop-i l = Held l.table l.self × Grown l.initial.self l.self × Based l.table l.self.marks l.i
