-- What is no entry is not asked;
-- an entry is legible or not.
use mathlib.Core.Bool.{not}
use mathlib.Core.Path.{sym, ap, ◌∙◌}
use borrow.Author.Tests.{ne_eqb}
use Rattle.paper.specs.Layout.{old}
use Rattle.convert.proofs.Looked.{at_other, at_entry}
use Rattle.convert.proofs.old.is_legible_at.Goals as goal

pub returns-then-kind_of-ne-KIND : goal.returns-then-kind_of-ne-KIND
returns-then-kind_of-ne-KIND c =
    let a = c.args in
    ap not (ne_eqb _ _ c.if-kind_of-ne-KIND.true) ∙ at_other old a.table.now a.i (λ q. c.if-kind_of-ne-KIND.true (c.kind_of.ensures ∙ q))

pub returns-else-kind_of-ne-KIND : goal.returns-else-kind_of-ne-KIND
returns-else-kind_of-ne-KIND c =
    let a = c.args in
    c.is_legible.ensures ∙ at_entry old a.table.now a.i (sym c.kind_of.ensures ∙ c.if-kind_of-ne-KIND.false)
