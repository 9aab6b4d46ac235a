-- The number of both bytes is the kind and 256 times the type.
-- Bytes are below 256, so it tells both.
use native.Mathlib.Omega.{arith}
use Rattle.judge_laws.proofs.Tests.{both-eqb}
use Rattle.judge.proofs.heading.is_of_type.Goals as goal

pub returns : goal.returns
returns c =
    rw (← c.byte_of.ensures.0, ← c.byte_of-2.ensures.0, c.from.ensures, c.from-2.ensures)
    (both-eqb c.byte_of.result c.byte_of-2.result 1 c.args.sought c.byte_of.ensures.1 (omega arith))
