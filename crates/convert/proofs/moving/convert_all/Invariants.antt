-- After i turns the entries below i are moved and all else is as it was.
-- At the end every record is as in the converted table.
use Rattle.convert.proofs.Passes.{Moving}
use Rattle.convert.proofs.moving.convert_all.Given as goal

abbrev pub invariant-loop-i : goal.invariant-loop-i
invariant-loop-i g l = let w = g.W.Way in Moving w.from w.into l.initial.table l.table l.i
