use mathlib.Core.List.{List}
use mathlib.Core.Path.{sym, ◌∙◌}
use Prim.Native.Nat.{ℕ, ◌-◌}
use native.Mathlib.Omega.{arith}
use lib.ListN.{get_or, take, drop}
use Rattle.paper.specs.Record.{held}
use Rattle.paper.specs.Table.{rec}
use Rattle.effects.specs.Listed.{gathered}
use Rattle.effects.proofs.Gathers.{part_none, part-more, part-most, part-done}
use Rattle.effects.proofs.reading.read_text.Goals as goal

pub loop-p-init : goal.loop-p-init
loop-p-init c =
    let a = c.args in
    let s = take a.most.0 (drop a.first.0 (gathered a.table.now a.rooms.now a.from.0 a.end.0)) in
    (part_none a.into.now s a.most.0, omega arith)

pub overflow_sub-left : goal.overflow_sub-left
overflow_sub-left c = part-most _ _ _ c.part-piece.ensures

pub loop-p-preserved : goal.loop-p-preserved
loop-p-preserved c =
    let a = c.args in
    let f : ℕ → List ℕ = λ i. held (rec a.table.now (get_or a.rooms.now i 0)) in
    let x = rw c.room_at.ensures at c.held_at-bytes.ensures in
    let m =
    part-more f _ _ _ _ a.most.0 c.loop-p.left c.loop-p.skip c.loop-p.p a.end.0 (omega arith) c.loop-p.invariant.1 x c.part-piece.ensures
    c.copy_piece.ensures in
    (rw c.saturating_sub-skip.ensures (m ∙ c.loop-p.invariant.0), omega arith)

pub returns : goal.returns
returns c =
    let a = c.args in
    let f : ℕ → List ℕ = λ i. held (rec a.table.now (get_or a.rooms.now i 0)) in
    sym (part-done f _ (a.most.0 - c.loop-p.left) c.loop-p.left c.loop-p.skip c.loop-p.p a.end.0 (omega arith)) ∙ c.loop-p.invariant.0
