-- Three bytes, the low one first, are the number.
-- Bytes are below 256, so the sum fits.
use native.Mathlib.Omega.{arith}
use Rattle.laws.proofs.Numbers.{number-three}
use Rattle.judge.proofs.read.three_of.Goals as goal

pub returns : goal.returns
returns c = (rw (number-three, ← c.byte_of-3.ensures.0, ← c.byte_of-2.ensures.0, ← c.byte_of.ensures.0), omega arith)
