use mathlib.Core.Path.{◌≡◌, refl, sym, ◌∙◌}
use native.Mathlib.Nat.{add-zero}
use native.Mathlib.Omega.{arith}
use Rattle.paper.specs.Scan.{count_below}
use Rattle.paper.specs.Table.{rooms}
use Rattle.paper.specs.Index.{is_entry}
use Rattle.index_laws.proofs.Turns.{count-on}
use Rattle.index.proofs.climb.count_entries.Goals as goal
use Rattle.index.proofs.climb.count_entries.Goals.{then-is_entry, else-is_entry}

pub loop-i-init : goal.loop-i-init
unfolding count_below
loop-i-init c = (omega arith, refl)

pub loop-i-preserved : goal.loop-i-preserved
loop-i-preserved c =
    let p = is_entry c.args.t.now in
    let l = c.loop-i in
    elim c.if-is_entry.branch [
      | then-is_entry w ↦
          let q = sym c.is_entry.ensures ∙ w.if-is_entry.true in
          rw w.count-is (omega arith, count-on p l.i l.count 1 (rw q) l.invariant.1)
      | else-is_entry w ↦
          let q = sym c.is_entry.ensures ∙ w.if-is_entry.false in
          rw w.count-is (omega arith, rw add-zero at (count-on p l.i l.count 0 (rw q) l.invariant.1))
    ]

pub returns : goal.returns
returns c =
    let e : c.loop-i.i ≡ rooms c.args.t.now = omega arith in
    (rw e at c.loop-i.invariant.1, omega arith)
