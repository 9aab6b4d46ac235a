-- What is not sized or not legible stays. A legible table is sound exactly where its conversion is,
-- and where that is not, converting back gives the table.
use mathlib.Core.Path.{sym, ◌∙◌}
use Rattle.paper.specs.Layout.{old, six}
use Rattle.convert.proofs.Conversions.{done-unsized, sized-converted, done-illegible, done-to, done-back}
use Rattle.convert.proofs.to_six.Goals as goal

pub returns-then-not-is_sized : goal.returns-then-not-is_sized
returns-then-not-is_sized c = done-unsized old six c.args.table.now (sym c.is_sized.ensures ∙ c.if-not-is_sized.true)

pub returns-then-not-are_legible : goal.returns-then-not-are_legible
returns-then-not-are_legible c =
    done-illegible c.args.table.now (sym c.is_sized.ensures ∙ c.if-not-is_sized.false)
    (sym c.are_legible.ensures ∙ c.if-not-are_legible.true)

pub convert_all-requires : goal.convert_all-requires
convert_all-requires c =
    sym c.is_sized.ensures ∙ c.if-not-is_sized.false

pub convert_all-requires-then-judge-ne0 : goal.convert_all-requires-then-judge-ne0
convert_all-requires-then-judge-ne0 c =
    rw c.convert_all.ensures
    (sized-converted old six c.args.table.now (sym c.is_sized.ensures ∙ c.if-not-is_sized.false))

pub returns-then-judge-ne0 : goal.returns-then-judge-ne0
returns-then-judge-ne0 c =
    done-back c.args.table.now (sym c.is_sized.ensures ∙ c.if-not-is_sized.false)
    (sym c.are_legible.ensures ∙ c.if-not-are_legible.false) _ c.convert_all.ensures
    (λ q. c.if-judge-ne0.true (c.judge.ensures ∙ q)) _ c.convert_all-then-judge-ne0.ensures

pub returns : goal.returns
returns c =
    done-to c.args.table.now (sym c.is_sized.ensures ∙ c.if-not-is_sized.false)
    (sym c.are_legible.ensures ∙ c.if-not-are_legible.false) _ c.convert_all.ensures
    (sym c.judge.ensures ∙ c.if-judge-ne0.false)
