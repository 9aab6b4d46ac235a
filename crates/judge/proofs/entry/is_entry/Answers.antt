-- Its kind is read from the record, and whether it stays from its mark.
-- One that goes is free, and no entry.
use native.Mathlib.Omega.{arith}
use Rattle.std.proofs.lemmas.Grind.{common_steps}
use Rattle.judge_laws.proofs.Mask.{entry-without}
use Rattle.judge.proofs.entry.is_entry.Goals as goal

pub returns-then-raw_of-eq-KIND : goal.returns-then-raw_of-eq-KIND
returns-then-raw_of-eq-KIND c =
    grind (arith, common_steps, entry-without c.args.gone.now c.args.t.now c.args.i c.requires.0)

pub returns-else-raw_of-eq-KIND : goal.returns-else-raw_of-eq-KIND
returns-else-raw_of-eq-KIND c =
    grind (arith, common_steps, entry-without c.args.gone.now c.args.t.now c.args.i c.requires.0)
