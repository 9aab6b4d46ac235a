use mathlib.Core.Path.{refl, ◌∙◌}
use Rattle.paper.specs.Table.{rooms}
use Rattle.paper.specs.Index.{rank, is_entry}
use Rattle.index_laws.proofs.Truth.{goes-below}
use Rattle.index_laws.proofs.Turns.{climb-on, climb-off, climb-end}
use Rattle.index.specs.Shown.{rank_shown}
use Rattle.index.proofs.climb.all_climb.Goals as goal

pub loop-number-init : goal.loop-number-init
unfolding rank_shown
loop-number-init c = refl

pub rank_at-requires : goal.rank_at-requires
rank_at-requires c = goes-below _ _ _ c.goes_on.result _ _ c.goes_on.ensures c.if-not-goes_on.false

pub loop-number-preserved : goal.loop-number-preserved
loop-number-preserved c =
    let s = c.args in
    let low = rank_shown c.loop-number.low in
    let i = c.loop-number.number-index in
    rw (c.after-low.ensures, c.rank_at.ensures.0)
    (climb-on (rank s.t.now) (is_entry s.t.now) (rooms s.t.now) low s.x.now i c.goes_on.result c.from-e.result
    c.loop-number-test.true c.from-e.ensures c.goes_on.ensures c.if-not-goes_on.false ∙ c.loop-number.invariant)

pub returns-then-not-goes_on : goal.returns-then-not-goes_on
returns-then-not-goes_on c =
    let s = c.args in
    let low = rank_shown c.loop-number.low in
    let i = c.loop-number.number-index in
    climb-off (rank s.t.now) (is_entry s.t.now) (rooms s.t.now) low s.x.now i c.goes_on.result c.from-e.result
    c.loop-number-test.true c.from-e.ensures c.goes_on.ensures c.if-not-goes_on.true ∙ c.loop-number.invariant

pub returns : goal.returns
returns c =
    let s = c.args in
    let low = rank_shown c.loop-number.low in
    climb-end (rank s.t.now) (is_entry s.t.now) (rooms s.t.now) low s.x.now c.loop-number.number-index c.loop-number-test.false ∙ c.loop-number.invariant
