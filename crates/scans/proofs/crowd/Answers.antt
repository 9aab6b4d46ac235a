use mathlib.Core.Bool.{Bool}
use mathlib.Core.Path.{◌≡◌, sym, ◌∙◌}
use Prim.Native.Nat.{ℕ}
use native.Mathlib.Omega.{arith}
use Rattle.paper.specs.Table.{rooms, rec}
use Rattle.paper.specs.Entry.{stands, crowd}
use Rattle.records.specs.Shown.{holder_shown}
use Rattle.scans.proofs.Turns.{count-start, count-on, count-off}
use Rattle.scans.proofs.crowd.Goals as goal
use Rattle.scans.proofs.crowd.Goals.{then-stands_here, else-stands_here}

pub loop-i-init : goal.loop-i-init
loop-i-init c = (count-start (λ j. stands (holder_shown c.args.d) (rec c.args.table.now j)), omega arith)

pub returns : goal.returns
unfolding crowd
returns c =
    let e : c.loop-i.i ≡ rooms c.args.table.now = omega arith in rw (← e) c.loop-i.invariant.0

pub loop-i-preserved : goal.loop-i-preserved
loop-i-preserved c =
    let p : ℕ → Bool = λ j. stands (holder_shown c.args.d) (rec c.args.table.now j) in
    let tested = sym c.stands_here.ensures in
    elim c.if-stands_here.branch [
      | then-stands_here w ↦ (w.count-is ∙ count-on p c.loop-i.i c.loop-i.count (tested ∙ w.if-stands_here.true) c.loop-i.invariant.0, omega arith)
      | else-stands_here w ↦ (w.count-is ∙ count-off p c.loop-i.i c.loop-i.count (tested ∙ w.if-stands_here.false) c.loop-i.invariant.0, omega arith)
    ]
