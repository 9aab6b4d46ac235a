-- The bytes passed so far are zero; the first that is not refutes the test.
-- Where none is left to pass, the test passes.
use mathlib.Core.Bool.{true}
use mathlib.Core.Path.{◌≡◌}
use Rattle.paper.specs.Record.{zeros}
use Rattle.paper.specs.Table.{rec}
use Rattle.judge.proofs.zeros.are_zeros.Given as goal

abbrev pub invariant-loop-m : goal.invariant-loop-m
invariant-loop-m l = zeros l.j l.m (rec l.t l.i) ≡ true
