-- A list of another length: 1 or 2 as the mend without a store tells, or 26. Of the right length: the mend is `elephant`'s, and the list is repaired
-- where it is done.
use mathlib.Core.Logic.{◌≢◌}
use mathlib.Core.Path.{◌∙◌}
use native.Mathlib.Omega.{arith}
use Rattle.indexed.proofs.Mends.{one_or_two, keeps-told, keeps-26, keeps-lent, mend-ready, keeps-afresh}
use Rattle.indexed.proofs.mend.Goals as goal
use Rattle.indexed.proofs.mend.Goals.{in_default-via-then-tried-lt1, in_default-via-else-tried-lt1+else-tried-lt3}

pub returns-in-1 : goal.returns-in-1
returns-in-1 c =
    let s = c.args in
    let m = c.mend-tried in
    let n = one_or_two m.result.number (omega arith) (omega arith) in
    keeps-told s.table.now s.index.now s.stop (rw c.rooms.ensures at c.if-index-rooms.true) m.result m.new.table m.ensures n

pub returns-in_default : goal.returns-in_default
returns-in_default c =
    let s = c.args in
    let m = c.mend-tried in
    let one : m.result.number ≢ 1 = λ e. elim c.in_default.branch [
      | in_default-via-then-tried-lt1 w ↦ omega arith
      | in_default-via-else-tried-lt1+else-tried-lt3 w ↦ omega arith
    ] in
    let two : m.result.number ≢ 2 = λ e. elim c.in_default.branch [
      | in_default-via-then-tried-lt1 w ↦ omega arith
      | in_default-via-else-tried-lt1+else-tried-lt3 w ↦ omega arith
    ] in
    keeps-26 s.table.now s.index.now s.stop (rw c.rooms.ensures at c.if-index-rooms.true) m.result m.new.table m.ensures one two
    c.from.result (rw c.whole.ensures at c.from.ensures)

pub returns-then-answer-eq0 : goal.returns-then-answer-eq0
returns-then-answer-eq0 c =
    let s = c.args in
    let m = c.mend-answer in
    let l = c.if-index-rooms.false ∙ c.rooms.ensures in
    let q = c.if-answer-eq0.true in
    let z = mend-ready s.table.now s.index.now s.stop l m.result m.new.table m.ensures q in
    keeps-afresh s.table.now s.index.now s.stop l m.result m.new.table m.ensures q _ (c.repair.ensures.1 z.apart z.fitting)

pub returns-else-answer-eq0 : goal.returns-else-answer-eq0
returns-else-answer-eq0 c =
    let s = c.args in
    let m = c.mend-answer in
    keeps-lent s.table.now s.index.now s.stop (c.if-index-rooms.false ∙ c.rooms.ensures) m.result m.new.table m.ensures c.if-answer-eq0.false
