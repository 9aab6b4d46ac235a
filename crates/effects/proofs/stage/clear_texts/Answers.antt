use mathlib.Core.Path.{◌≡◌}
use native.Mathlib.Omega.{arith}
use Rattle.paper.specs.Record.{blank}
use Rattle.effects.proofs.Stages.{made-start, made_more}
use Rattle.effects.proofs.stage.clear_texts.Goals as goal

pub loop-p-init : goal.loop-p-init
loop-p-init c = made-start _ _ _

pub loop-p-preserved : goal.loop-p-preserved
unfolding blank
loop-p-preserved c =
    made_more _ _ _ _ _ _ _ _ c.loop-p.invariant (rw c.room_at.ensures at c.put-rest.ensures)

pub returns : goal.returns
returns c =
    let e : c.loop-p.p ≡ c.args.count.0 = omega arith in
    rw e at c.loop-p.invariant
