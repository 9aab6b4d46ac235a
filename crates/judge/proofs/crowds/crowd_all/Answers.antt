use mathlib.Core.Bool.{true}
use mathlib.Core.Path.{◌≡◌, sym, ◌∙◌}
use native.Mathlib.Omega.{arith}
use borrow.Author.Count.{below_more, below_none}
use Rattle.judge_laws.specs.Mask.{without}
use Rattle.judge_laws.specs.Crowds.{roomy}
use Rattle.judge_laws.proofs.Mask.{rooms-without}
use Rattle.judge_laws.proofs.Crowds.{roomy-all, crowded-one}
use Rattle.judge.proofs.crowds.crowd_all.Goals as goal

pub loop-i-init : goal.loop-i-init
loop-i-init c = (c.requires.1, c.requires.2, below_none _)

pub crowd_turn-requires : goal.crowd_turn-requires
crowd_turn-requires c =
    (omega arith, omega arith, c.loop-i.invariant.0, c.loop-i.invariant.1)

pub returns-then-not-crowd_turn : goal.returns-then-not-crowd_turn
returns-then-not-crowd_turn c =
    let e = rooms-without c.args.gone.now c.args.t.now in
    sym (crowded-one (without c.args.gone.now c.args.t.now) c.loop-i.i (omega arith)
    (sym c.crowd_turn.ensures.0 ∙ c.if-not-crowd_turn.true))

pub loop-i-preserved : goal.loop-i-preserved
loop-i-preserved c =
    let r : c.crowd_turn.result ≡ true = c.if-not-crowd_turn.false in
    let e : roomy (without c.args.gone.now c.args.t.now) c.loop-i.i ≡ true = sym c.crowd_turn.ensures.0 ∙ r in
    let z = c.crowd_turn.ensures.1 r in
    (z.0, z.1, below_more _ _ c.loop-i.invariant.2 e)

pub returns : goal.returns
returns c =
    let a = c.args in
    let e = rooms-without a.gone.now a.t.now in
    sym (roomy-all (without a.gone.now a.t.now) (λ j k. c.loop-i.invariant.2 j (omega arith)))
