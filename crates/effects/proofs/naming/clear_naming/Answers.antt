use mathlib.Core.Path.{◌≡◌}
use Prim.Native.Nat.{◌<◌}
use native.Mathlib.Omega.{arith}
use Rattle.paper.specs.Table.{rooms}
use Rattle.effects.proofs.Namings.{naming-start, naming-more}
use Rattle.effects.proofs.naming.clear_naming.Goals as goal

pub loop-i-init : goal.loop-i-init
loop-i-init c = naming-start _ _ _

pub loop-i-preserved : goal.loop-i-preserved
loop-i-preserved c =
    let b : c.loop-i.i < rooms c.args.table.now = omega arith in
    naming-more _ _ _ _ _ _ _ _ b c.loop-i.invariant c.clear_if_naming-rest.ensures

pub returns : goal.returns
returns c =
    let e : c.loop-i.i ≡ rooms c.args.table.now = omega arith in
    rw e at c.loop-i.invariant
