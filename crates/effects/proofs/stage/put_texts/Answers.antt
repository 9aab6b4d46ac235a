use mathlib.Core.Path.{◌≡◌}
use native.Mathlib.Omega.{arith}
use lib.ListN.{length}
use Rattle.paper.specs.Block.{blocks}
use Rattle.effects.specs.Stage.{text_stores}
use Rattle.effects.proofs.Stages.{made-start, made_more}
use Rattle.effects.proofs.stage.put_texts.Goals as goal

pub loop-p-init : goal.loop-p-init
loop-p-init c = made-start _ _ _

pub loop-p-preserved : goal.loop-p-preserved
loop-p-preserved c = made_more _ _ _ _ _ _ _ _ c.loop-p.invariant c.put_text-rest.ensures

pub returns : goal.returns
unfolding text_stores
returns c =
    let e : c.loop-p.p ≡ blocks (length c.args.text.now) = omega arith in
    rw e at c.loop-p.invariant
