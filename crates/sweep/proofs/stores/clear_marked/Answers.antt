use Rattle.std.proofs.Common.{◌≡◌, arith}
use Rattle.paper.specs.Table.{rooms}
use Rattle.effects.proofs.Counted.{counted_start, counted-more}
use Rattle.sweep.proofs.stores.clear_marked.Goals as goal

pub loop-i-init : goal.loop-i-init
loop-i-init c = (counted_start _ _ _ _ _, omega arith)

pub clear_turn-needed-requires : goal.clear_turn-needed-requires
clear_turn-needed-requires c = (omega arith, omega arith)

pub loop-i-preserved : goal.loop-i-preserved
loop-i-preserved c =
    (counted-more _ _ _ _ _ _ _ _ _ _ c.loop-i.invariant.0 c.clear_turn-needed.ensures.0, omega arith)

pub returns : goal.returns
returns c =
    let e : c.loop-i.i ≡ rooms c.args.table.now = omega arith in
    (rw e at c.loop-i.invariant.0, omega arith)
