-- The tests in turn: there, an entry, and a rank that is not less.
-- Each decides alone where it fails.
use borrow.Author.Tests.{lt-ltb, le-ltb}
use native.Mathlib.Omega.{arith}
use mathlib.Core.Path.{◌∙◌}
use Rattle.index_laws.specs.Climbs.{goes_on}
use Rattle.paper.specs.Table.{rooms}
use Rattle.index.specs.Shown.{rank_shown}
use Rattle.index_laws.proofs.Ranks.{least-rank}
use Rattle.index.proofs.climb.goes_on.Goals as goal
use Rattle.index.proofs.climb.goes_on.Goals.{then-e-t, else-e-t}

pub returns-then-is_entry : goal.returns-then-is_entry
unfolding goes_on rank_shown
returns-then-is_entry c =
    let s = c.args in
    let r = c.rank_at.result in
    let least = c.ge.ensures ∙ least-rank r.holder r.name s.low.holder s.low.name (omega arith) (omega arith) in
    elim c.if-e-t.branch [
      | then-e-t w ↦ rw (lt-ltb s.e (rooms s.t.now) w.if-e-t.true, ← w.is_entry.ensures, ← w.value-is, c.if-is_entry.true, ← c.rank_at.ensures.0) least
      | else-e-t w ↦ cc (le-ltb s.e (rooms s.t.now) w.if-e-t.false)
    ]

pub returns-else-is_entry : goal.returns-else-is_entry
unfolding goes_on
returns-else-is_entry c =
    let s = c.args in
    elim c.if-e-t.branch [
      | then-e-t w ↦ rw (lt-ltb s.e (rooms s.t.now) w.if-e-t.true, ← w.is_entry.ensures, ← w.value-is, c.if-is_entry.false)
      | else-e-t w ↦ rw (le-ltb s.e (rooms s.t.now) w.if-e-t.false, c.if-is_entry.false)
    ]
