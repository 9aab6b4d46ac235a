-- A number of eight bytes is two numbers of four, the low one first.
-- Both are below 4,294,967,296, so the sum fits.
use Rattle.judge_laws.proofs.Shapes.{number-eight}
use Rattle.judge.proofs.read.eight_of.Goals as goal

pub returns : goal.returns
returns c = rw (number-eight, ← c.four_of-2.ensures.0, ← c.four_of.ensures.0)
