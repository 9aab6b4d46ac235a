-- The judge's number for a table that stays is the call's own;
-- a table that is sound is converted.
use mathlib.Core.Path.{sym, ◌∙◌}
use Rattle.convert.proofs.Conversions.{judged-sized, done-from, done_refused}
use Rattle.convert.proofs.from_six.Goals as goal

pub returns-then-number-ne0 : goal.returns-then-number-ne0
returns-then-number-ne0 c = done_refused c.args.table.now _ c.judge-number.ensures c.if-number-ne0.true

pub convert_all-requires : goal.convert_all-requires
convert_all-requires c =
    judged-sized c.args.table.now (sym c.judge-number.ensures ∙ c.if-number-ne0.false)

pub returns : goal.returns
returns c =
    done-from c.args.table.now _ (sym c.judge-number.ensures ∙ c.if-number-ne0.false) c.convert_all.ensures
