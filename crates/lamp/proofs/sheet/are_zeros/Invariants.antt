-- The bytes passed are zero; one that is not decides, and at the end all of them are.
-- The measure is what is left to look at.
use mathlib.Core.Bool.{true}
use mathlib.Core.Path.{◌≡◌}
use Rattle.paper.specs.Record.{zeros}
use Rattle.paper.specs.Table.{rec}
use Rattle.lamp.proofs.sheet.are_zeros.Given as goal

abbrev pub invariant-loop-m : goal.invariant-loop-m
invariant-loop-m l = (zeros l.place l.m (rec l.sheets l.i) ≡ true)
