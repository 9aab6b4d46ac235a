use mathlib.Core.Path.{◌≡◌}
use native.Mathlib.Omega.{arith}
use Rattle.paper.specs.Table.{rooms}
use Rattle.laws.proofs.Sound.{sized-whole}
use Rattle.convert.proofs.Passes.{moving-start, moving-next, moving-end}
use Rattle.convert.proofs.moving.convert_all.Goals as goal

pub loop-i-init : goal.loop-i-init
loop-i-init g c = let w = g.W.Way in moving-start w.from w.into c.args.table.now

pub loop-i-preserved : goal.loop-i-preserved
loop-i-preserved g c =
    let w = g.W.Way in
    moving-next w.from w.into g.met.W.Way.fits c.args.table.now c.loop-i.table _ c.loop-i.i (omega arith) c.loop-i.invariant c.move_turn.ensures

pub returns : goal.returns
returns g c =
    let w = g.W.Way in
    let t = c.args.table.now in
    let e : c.loop-i.i ≡ rooms t = omega arith in
    moving-end w.from w.into g.met.W.Way.fits t c.loop-i.table (sized-whole t c.requires).0 (rw e at c.loop-i.invariant)
