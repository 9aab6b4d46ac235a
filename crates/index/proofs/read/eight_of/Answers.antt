-- A number of eight bytes is two numbers of four, the low one first.
-- Both are below 4,294,967,296, so the sum fits.
use native.Mathlib.Omega.{arith}
use Rattle.records.proofs.Packed.{number-halves}
use Rattle.index.proofs.read.eight_of.Goals as goal

pub returns : goal.returns
returns c = (rw (number-halves, ← c.four_of-2.ensures.0, ← c.four_of.ensures.0), omega arith)
