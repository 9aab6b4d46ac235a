-- Below the last number that is shown the sheet's own is the least of both;
-- from there on the last.
use native.Mathlib.Omega.{arith}
use Rattle.std.proofs.lemmas.Bool.Decides.{nat_tests}
use Rattle.lamp.specs.Shown.{sheet_shown}
use Rattle.lamp.proofs.sheet_shown.Goals as goal

pub returns : goal.returns
unfolding sheet_shown
returns c = grind (arith, nat_tests)
