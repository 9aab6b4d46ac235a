-- The level and the digit are those of the definition,
-- and so are the places where they stand.
use Rattle.declarations.proofs.Parts.{ends, goes_on_lem}
use Rattle.declarations.proofs.declaration.after_point.Goals as goal

pub returns-then-d-width : goal.returns-then-d-width
returns-then-d-width c =
    let args = c.args in
    goes_on_lem args.w.now args.front args.i _ _ _ _ (rw c.byte_at.ensures at c.level_of-level.ensures)
    c.width.ensures.bytes (rw c.byte_at-2.ensures at c.digit_of-digit.ensures) c.width-2.ensures.bytes
    c.if-d-width.true

pub returns : goal.returns
returns c =
    let args = c.args in
    ends args.w.now args.front args.i _ _ _ _ (rw c.byte_at.ensures at c.level_of-level.ensures)
    c.width.ensures.bytes (rw c.byte_at-2.ensures at c.digit_of-digit.ensures) c.width-2.ensures.bytes
    c.if-d-width.false
