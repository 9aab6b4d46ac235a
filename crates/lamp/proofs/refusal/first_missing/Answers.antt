use mathlib.Core.Path.{◌≡◌}
use native.Mathlib.Omega.{arith}
use Rattle.job.specs.Sheet.{count}
use Rattle.job.specs.Refusal.{missing}
use Rattle.lamp.proofs.Refusals.{left-all, left-short, left-more, found_here, found_none}
use Rattle.lamp.proofs.refusal.first_missing.Goals as goal

pub loop-i-init : goal.loop-i-init
loop-i-init c = left-all _ _

pub returns-then-left-length : goal.returns-then-left-length
returns-then-left-length c =
    let s = c.args in
    let l = left-short s.sheets.now s.texts.now c.loop-i.i c.loop-i.left c.loop-i.invariant (omega (arith, c.length_of-length.ensures.0)) in
    found_here (missing s.sheets.now s.texts.now) _ c.loop-i.i (omega arith) l c.loop-i.invariant.none

pub loop-i-preserved : goal.loop-i-preserved
loop-i-preserved c =
    let e = c.length_of-length.ensures.0 in
    rw e (left-more c.args.sheets.now c.args.texts.now c.loop-i.i c.loop-i.left c.loop-i.invariant (omega (arith, e)))

pub returns : goal.returns
returns c =
    let e : c.loop-i.i ≡ count c.args.sheets.now = omega arith in
    found_none (missing c.args.sheets.now c.args.texts.now) _ (rw e at c.loop-i.invariant.none)
