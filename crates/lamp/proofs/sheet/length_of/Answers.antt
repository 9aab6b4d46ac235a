-- The two bytes at the length's place are the number, and two bytes say no more than 65,535.
-- So it fits.
use native.Mathlib.Omega.{arith}
use Rattle.lamp.proofs.sheet.length_of.Goals as goal

pub returns : goal.returns
returns c = (c.two_of.ensures, omega arith)
