use mathlib.Core.Path.{◌≡◌}
use native.Mathlib.Omega.{arith}
use Rattle.paper.specs.Table.{rooms}
use Rattle.judge.proofs.pass.pass_all.Goals as goal

pub loop-i-init : goal.loop-i-init
loop-i-init c = c.requires.4

pub turn-requires : goal.turn-requires
turn-requires c =
    (omega arith, c.requires.0, c.requires.1, c.requires.2, c.requires.3, c.loop-i.invariant)

pub loop-i-preserved : goal.loop-i-preserved
loop-i-preserved c = c.in_ok-s.ensures

pub returns : goal.returns
returns c =
    let e : c.loop-i.i ≡ rooms c.args.t.now = omega arith in
    rw e at c.loop-i.invariant
