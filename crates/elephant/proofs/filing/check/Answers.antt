-- 16 is the first check and what refuses after 19 the last: each refuses, or the verdict is that of the checks between.
-- The link is taken where a give displaces.
use mathlib.Core.Path.{sym, ◌∙◌}
use Rattle.paper.specs.Check.{verdict}
use Rattle.records.specs.Shown.{holder_shown}
use Rattle.elephant.proofs.Ending.{told-first, told-late}
use Rattle.elephant.proofs.Ends.{handed}
use Rattle.answers.specs.Shown.{place_meant}
use Rattle.elephant.proofs.filing.check.Goals as goal

pub returns-then-is_taken : goal.returns-then-is_taken
unfolding verdict
returns-then-is_taken c = rw (← c.is_some.ensures, ← c.is_taken.ensures, c.if-is_taken.true)

pub returns-in_err-check_entry : goal.returns-in_err-check_entry
returns-in_err-check_entry c =
    let a = c.args in
    told-first a.table.now a.to (place_meant a.place) (holder_shown a.holder) a.meets a.needed a.late (sym (rw c.is_some.ensures at c.is_taken.ensures) ∙ c.if-is_taken.false)
    _ c.in_err-check_entry.ensures _ (handed _ _ c.from_residual.ensures.1)

pub returns : goal.returns
returns c =
    let a = c.args in
    told-late a.table.now a.to (place_meant a.place) (holder_shown a.holder) a.meets a.needed a.late (sym (rw c.is_some.ensures at c.is_taken.ensures) ∙ c.if-is_taken.false)
    _ c.in_ok-check_entry.ensures
