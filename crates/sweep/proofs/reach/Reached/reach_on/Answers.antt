use Rattle.std.proofs.Common.{refl, arith}
use Rattle.sweep.proofs.Marks.{held-end, based-grown}
use Rattle.sweep.proofs.Closed.{waits-more, reaches}
use Rattle.sweep.proofs.reach.Reached.reach_on.Goals as goal

pub loop-taken-init : goal.loop-taken-init
loop-taken-init c = (c.requires.2, c.requires.3, c.requires.4, held-end _ _ c.requires.2)

pub reach_from-requires : goal.reach_from-requires
reach_from-requires c =
    (c.requires.0, c.requires.1, c.loop-taken.invariant.0.waiting c.loop-taken.taken c.loop-taken-test.true, c.loop-taken.invariant.0)

pub loop-taken-preserved : goal.loop-taken-preserved
loop-taken-preserved c =
    let r = c.reach_from.ensures in
    let v = c.loop-taken.invariant in (
      r.0,
      waits-more _ c.loop-taken.taken _ _ _ refl c.loop-taken-test.true v.1 r.1 r.2,
      based-grown _ _ _ _ v.2 r.1,
      held-end _ _ r.0,
    )

pub returns : goal.returns
returns c =
    let v = c.loop-taken.invariant in
    (reaches _ c.loop-taken.taken _ v.0 v.1 (omega arith) v.2, v.0.queued)
