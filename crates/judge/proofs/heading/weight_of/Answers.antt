-- A simple file's heading asks for the blocks of its length, any other record for none.
-- A heading that stays is the table's own, so its length is read there.
use mathlib.Core.Bool.{true}
use mathlib.Core.Path.{◌≡◌, sym, ◌∙◌}
use native.Mathlib.Omega.{arith}
use Rattle.paper.specs.Record.{simple}
use Rattle.paper.specs.Table.{rec}
use Rattle.judge_laws.specs.Mask.{without}
use Rattle.judge_laws.proofs.Mask.{simple-kept}
use Rattle.judge.proofs.heading.weight_of.Goals as goal

pub returns-then-is_simple : goal.returns-then-is_simple
returns-then-is_simple c =
    let a = c.args in
    let h = rec (without a.gone.now a.t.now) a.i in
    let s : simple h ≡ true = sym c.is_simple.ensures ∙ c.if-is_simple.true in
    let kept = simple-kept a.gone.now a.t.now (omega arith) a.i s in
    (rw (s, kept, ← c.two_of.ensures.0) c.blocks-then-is_simple.ensures, omega (arith, c.blocks-then-is_simple.ensures, c.two_of.ensures.1))
