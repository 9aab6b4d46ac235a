-- Each of the four numbers passes the test, and no other number does.
-- They are what the four names pack to.
use mathlib.Core.Logic.{inl, inr, ⊎_elim}
use borrow.Author.Tests.{ne_eqb}
use Rattle.paper.specs.Layout.{packing}
use Rattle.judge_laws.specs.Codes.{area}
use Rattle.judge.proofs.name.is_area.Goals as goal

pub returns-in-263179103224463360 : goal.returns-in-263179103224463360
unfolding area packing
returns-in-263179103224463360 c = ⊎_elim (λ e. rw e) (⊎_elim (λ e. rw e) (⊎_elim (λ e. rw e) (λ e. rw e))) c.in-263179103224463360.is

pub returns-in_default : goal.returns-in_default
unfolding area packing
returns-in_default c =
    let x = c.args.x in
    let r = c.in_default.in_default-own.rest.1 in
    rw (
      ne_eqb x 266275327968280576 (λ e. r (inr (inl e))),
      ne_eqb x 267682702851833856 (λ e. r (inr (inr (inr e)))),
      ne_eqb x 263179103224463360 (λ e. r (inl e)),
      ne_eqb x 266838277921701888 (λ e. r (inr (inr (inl e)))),
    )
