-- What is no entry stays;
-- an entry is laid anew in its place.
use mathlib.Core.Path.{sym, ap, ◌∙◌}
use Rattle.paper.specs.Table.{lay}
use Rattle.convert.proofs.Passes.{turned-not, turned-entry}
use Rattle.convert.proofs.moving.move_turn.Goals as goal

pub returns-then-kind_of-eq-KIND : goal.returns-then-kind_of-eq-KIND
returns-then-kind_of-eq-KIND g c =
    let w = g.W.Way in
    let a = c.args in
    c.store.ensures
    ∙ ap (lay a.table.now a.i) c.moved-r.ensures
    ∙ turned-entry w.from w.into a.table.now a.i (sym c.kind_of.ensures ∙ c.if-kind_of-eq-KIND.true)

pub returns-else-kind_of-eq-KIND : goal.returns-else-kind_of-eq-KIND
returns-else-kind_of-eq-KIND g c =
    let w = g.W.Way in
    let a = c.args in
    turned-not w.from w.into a.table.now a.i (λ q. c.if-kind_of-eq-KIND.false (c.kind_of.ensures ∙ q))
