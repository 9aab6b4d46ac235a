-- A number of four bytes is two numbers of two, the low one first.
-- Both are below 65,536, so the sum fits.
use native.Mathlib.Omega.{arith}
use Rattle.laws.proofs.Numbers.{number-four}
use Rattle.index.proofs.read.four_of.Goals as goal

pub returns : goal.returns
returns c = (rw (number-four, ← c.two_of-2.ensures.0, ← c.two_of.ensures.0), omega arith)
