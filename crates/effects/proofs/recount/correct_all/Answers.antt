use mathlib.Core.Path.{◌≡◌}
use Prim.Native.Nat.{◌<◌}
use native.Mathlib.Omega.{arith}
use Rattle.paper.specs.Table.{rooms}
use Rattle.effects.proofs.Corrected.{corrected-more}
use Rattle.effects.proofs.Counted.{counted_start}
use Rattle.effects.proofs.recount.correct_all.Goals as goal

pub loop-i-init : goal.loop-i-init
loop-i-init c = (counted_start _ _ _ _ _, omega arith)

pub correct_turn-needed-requires : goal.correct_turn-needed-requires
correct_turn-needed-requires c = (omega arith, omega arith)

pub loop-i-preserved : goal.loop-i-preserved
loop-i-preserved c =
    let i : c.loop-i.i < 2048 = omega arith in
    let b : c.loop-i.i < rooms c.args.table.now = omega arith in
    let named = c.requires.1.at c.loop-i.i i in
    let held = c.requires.2.at c.loop-i.i i in
    (corrected-more _ _ _ _ _ _ c.loop-i.invariant.0 b _ _ _ _ named held c.correct_turn-needed.ensures.0, omega arith)

pub returns : goal.returns
returns c =
    let e : c.loop-i.i ≡ rooms c.args.table.now = omega arith in
    (rw e at c.loop-i.invariant.0, omega arith)
