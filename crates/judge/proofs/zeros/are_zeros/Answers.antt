use mathlib.Core.Path.{◌≡◌, sym, ◌∙◌}
use native.Mathlib.Omega.{arith}
use Rattle.paper.specs.Table.{rec}
use Rattle.judge_laws.proofs.Shapes.{zeros-not, zeros-next}
use Rattle.judge.proofs.zeros.are_zeros.Goals as goal

pub loop-m-init : goal.loop-m-init
loop-m-init c = c.count_zeros-m.ensures.1

pub returns-then-byte_of-ne0 : goal.returns-then-byte_of-ne0
returns-then-byte_of-ne0 c =
    let a = c.args in
    sym (zeros-not a.j a.n (rec a.t.now a.i) c.loop-m.m (omega arith) (λ q. c.if-byte_of-ne0.true (c.byte_of.ensures.0 ∙ q)))

pub loop-m-preserved : goal.loop-m-preserved
loop-m-preserved c =
    zeros-next c.args.j c.loop-m.m (rec c.args.t.now c.args.i) c.loop-m.invariant (sym c.byte_of.ensures.0 ∙ c.if-byte_of-ne0.false)

pub returns : goal.returns
returns c =
    let e : c.loop-m.m ≡ c.args.n = omega arith in
    sym (rw e at c.loop-m.invariant)
