use mathlib.Core.Bool.{true}
use mathlib.Core.Path.{◌≡◌, sym, ◌∙◌}
use Prim.Native.Nat.{◌+◌, ◌*◌, ◌/◌}
use native.Mathlib.Omega.{arith}
use Rattle.paper.specs.Record.{zeros}
use Rattle.paper.specs.Table.{rec}
use Rattle.judge_laws.proofs.Shapes.{zeros-more, zeros-none}
use Rattle.judge.proofs.zeros.count_zeros.Goals as goal

pub loop-k-init : goal.loop-k-init
loop-k-init c = zeros-none c.args.j (rec c.args.t.now c.args.i)

pub returns-then-four_of-ne0 : goal.returns-then-four_of-ne0
returns-then-four_of-ne0 c = (omega arith, c.loop-k.invariant)

pub loop-k-preserved : goal.loop-k-preserved
loop-k-preserved c =
    let a = c.args in
    let m = 4 * c.loop-k.k in
    let n : 4 * (c.loop-k.k + 1) ≡ m + 4 = omega arith in
    rw n (zeros-more a.j m 4 (rec a.t.now a.i) c.loop-k.invariant (sym c.four_of.ensures.0 ∙ c.if-four_of-ne0.false))

pub returns : goal.returns
returns c =
    let a = c.args in
    let e : 4 * c.loop-k.k ≡ a.n / 4 * 4 = omega arith in
    let z : zeros a.j (a.n / 4 * 4) (rec a.t.now a.i) ≡ true = rw e at c.loop-k.invariant in
    (omega arith, z)
