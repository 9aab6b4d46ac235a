use mathlib.Core.Path.{◌≡◌, sym, ◌∙◌}
use native.Mathlib.Omega.{arith}
use Rattle.paper.specs.Table.{rec}
use Rattle.judge_laws.proofs.Shapes.{zeros-not, zeros-none, zeros-next}
use Rattle.lamp.proofs.sheet.are_zeros.Goals as goal

pub loop-m-init : goal.loop-m-init
loop-m-init c = zeros-none _ _

pub returns-then-byte_of-ne0 : goal.returns-then-byte_of-ne0
returns-then-byte_of-ne0 c =
    sym (zeros-not c.args.place c.args.n (rec c.args.sheets.now c.args.i) c.loop-m.m (omega arith)
    (λ z. c.if-byte_of-ne0.true (c.byte_of.ensures ∙ z)))

pub loop-m-preserved : goal.loop-m-preserved
loop-m-preserved c =
    zeros-next c.args.place c.loop-m.m (rec c.args.sheets.now c.args.i) c.loop-m.invariant (sym c.byte_of.ensures ∙ c.if-byte_of-ne0.false)

pub returns : goal.returns
returns c =
    let e : c.loop-m.m ≡ c.args.n = omega arith in
    sym (rw e at c.loop-m.invariant)
