use mathlib.Core.Bool.{Bool}
use mathlib.Core.Path.{◌≡◌, sym, ◌∙◌}
use Prim.Native.Nat.{ℕ, ◌≤◌}
use native.Mathlib.Omega.{arith}
use lib.ListN.{length}
use borrow.Author.Tests.{le-ltb}
use Rattle.paper.specs.Record.{is_kind}
use Rattle.paper.specs.Table.{rooms, rec, frees}
use Rattle.laws.proofs.Counts.{count-up}
use Rattle.scans.proofs.Turns.{count-start, count-on, count-off}
use Rattle.scans.proofs.Free.{count-frees}
use Rattle.scans.proofs.has_fewer_free.Goals as goal
use Rattle.scans.proofs.has_fewer_free.Goals.{then-is_kind, else-is_kind}

pub loop-i-init : goal.loop-i-init
loop-i-init c = (count-start (λ j. is_kind 0 (rec c.args.table.now j)), omega arith)

pub returns-then-needed-count : goal.returns-then-needed-count
returns-then-needed-count c =
    let a = c.args in
    let t = a.table.now in
    let m : a.needed ≤ length (frees t) =
    omega (arith, c.loop-i.invariant.0, count-frees t, count-up (λ j. is_kind 0 (rec t j)) c.loop-i.i (rooms t) (omega arith)) in
    sym (le-ltb (length (frees t)) a.needed m)

pub returns : goal.returns
returns c =
    let t = c.args.table.now in
    let e : c.loop-i.i ≡ rooms t = omega arith in
    rw (count-frees t, ← e, ← c.loop-i.invariant.0)

pub loop-i-preserved : goal.loop-i-preserved
loop-i-preserved c =
    let p : ℕ → Bool = λ j. is_kind 0 (rec c.args.table.now j) in
    let tested = sym c.is_kind.ensures in
    elim c.if-is_kind.branch [
      | then-is_kind w ↦ (w.count-is ∙ count-on p c.loop-i.i c.loop-i.count (tested ∙ w.if-is_kind.true) c.loop-i.invariant.0, omega arith)
      | else-is_kind w ↦ (w.count-is ∙ count-off p c.loop-i.i c.loop-i.count (tested ∙ w.if-is_kind.false) c.loop-i.invariant.0, omega arith)
    ]
