-- What is not right by itself is no text, and past the table or in no simple file it is not in place.
-- A heading that stays is the table's own, so its length is read there.
use native.Mathlib.Omega.{arith}
use Rattle.std.proofs.lemmas.Grind.{common_steps}
use Rattle.paper.specs.Table.{rec}
use Rattle.judge_laws.proofs.Mask.{rec-none, simple-kept}
use Rattle.judge_laws.proofs.Shapes.{text-gap}
use Rattle.judge.proofs.text.is_text_right.Goals as goal

pub is_block_right-requires : goal.is_block_right-requires
is_block_right-requires c =
    let a = c.args in
    let k = simple-kept a.gone.now a.t.now (omega arith) a.h in
    (omega arith, grind (arith, common_steps), grind (arith, common_steps, k), c.requires.3, omega arith, grind (arith, common_steps))

pub returns-then-is_simple : goal.returns-then-is_simple
returns-then-is_simple c =
    let a = c.args in
    grind (arith, common_steps, simple-kept a.gone.now a.t.now (omega arith) a.h)

pub returns-else-is_simple : goal.returns-else-is_simple
returns-else-is_simple c =
    let a = c.args in
    grind (arith, common_steps, text-gap (rec a.t.now a.i), rec-none a.gone.now a.t.now (omega arith) a.h)
