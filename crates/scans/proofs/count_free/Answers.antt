use mathlib.Core.Bool.{Bool}
use mathlib.Core.Path.{◌≡◌, sym, ◌∙◌}
use Prim.Native.Nat.{ℕ}
use native.Mathlib.Omega.{arith}
use Rattle.paper.specs.Record.{is_kind}
use Rattle.paper.specs.Table.{rooms, rec}
use Rattle.scans.proofs.Turns.{count-start, count-on, count-off}
use Rattle.scans.proofs.Free.{count-frees}
use Rattle.scans.proofs.count_free.Goals as goal
use Rattle.scans.proofs.count_free.Goals.{then-is_kind, else-is_kind}

pub loop-i-init : goal.loop-i-init
loop-i-init c = (count-start (λ j. is_kind 0 (rec c.args.table.now j)), omega arith)

pub returns : goal.returns
returns c =
    let e : c.loop-i.i ≡ rooms c.args.table.now = omega arith in
    rw (count-frees c.args.table.now, ← e) c.loop-i.invariant.0

pub loop-i-preserved : goal.loop-i-preserved
loop-i-preserved c =
    let p : ℕ → Bool = λ j. is_kind 0 (rec c.args.table.now j) in
    let tested = sym c.is_kind.ensures in
    elim c.if-is_kind.branch [
      | then-is_kind w ↦ (w.count-is ∙ count-on p c.loop-i.i c.loop-i.count (tested ∙ w.if-is_kind.true) c.loop-i.invariant.0, omega arith)
      | else-is_kind w ↦ (w.count-is ∙ count-off p c.loop-i.i c.loop-i.count (tested ∙ w.if-is_kind.false) c.loop-i.invariant.0, omega arith)
    ]
