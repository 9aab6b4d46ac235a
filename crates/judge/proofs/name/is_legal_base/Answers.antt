-- One of the four areas; or a point first, at least three characters, and all of them letters and points.
-- The characters are the codes without the blanks at the end.
use mathlib.Core.Path.{sym, ◌∙◌}
use native.Mathlib.Omega.{arith}
use borrow.Author.Tests.{lt-leb}
use Rattle.judge_laws.proofs.Names.{base_area, base-plain, base_short, base-long}
use Rattle.judge.proofs.name.is_legal_base.Goals as goal

pub returns-then-is_area : goal.returns-then-is_area
returns-then-is_area c =
    sym (base_area c.args.x c.requires (sym c.is_area.ensures ∙ c.if-is_area.true))

pub returns-then-x-ne-POINT : goal.returns-then-x-ne-POINT
returns-then-x-ne-POINT c =
    sym (base-plain c.args.x c.requires (sym c.is_area.ensures ∙ c.if-is_area.false) (λ q. c.if-x-ne-POINT.true q))

pub returns-then-codes-ge3 : goal.returns-then-codes-ge3
returns-then-codes-ge3 c =
    let w = c.without_blanks-codes in
    c.are_in_base.ensures
    ∙ sym (base-long c.args.x c.requires (sym c.is_area.ensures ∙ c.if-is_area.false) w.result.count w.result.value w.ensures.0
    c.if-x-ne-POINT.false (omega arith))

pub returns-else-codes-ge3 : goal.returns-else-codes-ge3
returns-else-codes-ge3 c =
    let w = c.without_blanks-codes in
    lt-leb 3 w.result.count (omega arith)
    ∙ sym (base_short c.args.x c.requires (sym c.is_area.ensures ∙ c.if-is_area.false) w.result.count w.result.value w.ensures.0 (omega arith))
