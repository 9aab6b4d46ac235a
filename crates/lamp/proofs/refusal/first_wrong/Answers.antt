use mathlib.Core.Path.{◌≡◌, sym, ◌∙◌}
use native.Mathlib.Omega.{arith}
use Rattle.scans.proofs.Turns.{any-start, any-still}
use Rattle.job.specs.Sheet.{count}
use Rattle.lamp.proofs.Refusals.{found_here, found_none}
use Rattle.lamp.proofs.refusal.first_wrong.Goals as goal

pub loop-i-init : goal.loop-i-init
loop-i-init g c = (c.requires, λ p h. any-start p)

pub returns-then-is_wrong : goal.returns-then-is_wrong
returns-then-is_wrong g c = λ p h.
    let e = h c.loop-i.i _ (omega arith) c.is_wrong.ensures in
    found_here p _ c.loop-i.i (omega arith) (sym e ∙ c.if-is_wrong.true) (c.loop-i.invariant.1 p h)

pub loop-i-preserved : goal.loop-i-preserved
loop-i-preserved g c = (
  c.requires,
  λ p h.
      let e = h c.loop-i.i _ (omega arith) c.is_wrong.ensures in
      any-still p c.loop-i.i (sym e ∙ c.if-is_wrong.false) (c.loop-i.invariant.1 p h),
)

pub returns : goal.returns
returns g c = λ p h.
    let e : c.loop-i.i ≡ count c.args.sheets.now = omega arith in
    found_none p _ (rw e at (c.loop-i.invariant.1 p h))
