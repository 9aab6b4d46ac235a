-- Two bytes, the low one first, are the number.
-- Bytes are below 256, so the sum fits.
use native.Mathlib.Omega.{arith}
use Rattle.laws.proofs.Numbers.{number-two}
use Rattle.judge.proofs.read.two_of.Goals as goal

pub returns : goal.returns
returns c = (rw (number-two, ← c.byte_of-2.ensures.0, ← c.byte_of.ensures.0), omega arith)
