-- The type and the lifetime are those of the definition,
-- and so is the place where they end: the end, the point, or neither.
use mathlib.Core.Path.{sym, ◌∙◌}
use Rattle.declarations.proofs.Parts.{unpointed, misplaced, pointed-on}
use Rattle.declarations.proofs.declaration.declaration_of.Goals as goal

pub returns-then-b-w : goal.returns-then-b-w
returns-then-b-w c =
    let w = c.args.w.now in
    unpointed w _ _ _ _ (rw c.byte_at.ensures at c.kind_of-kind.ensures) c.width-a.ensures.bytes
    (rw c.byte_at-2.ensures at c.lifetime_of-lifetime.ensures) c.width.ensures.bytes
    c.if-b-w.true

pub returns-then-byte_at-ne46 : goal.returns-then-byte_at-ne46
returns-then-byte_at-ne46 c =
    let w = c.args.w.now in
    misplaced w _ _ _ _ (rw c.byte_at.ensures at c.kind_of-kind.ensures) c.width-a.ensures.bytes
    (rw c.byte_at-2.ensures at c.lifetime_of-lifetime.ensures) c.width.ensures.bytes
    c.if-b-w.false (λ e. c.if-byte_at-ne46.true (c.byte_at-3.ensures ∙ e))

pub returns : goal.returns
returns c =
    let w = c.args.w.now in
    c.after_point.ensures
    ∙ pointed-on w _ _ _ _ (rw c.byte_at.ensures at c.kind_of-kind.ensures) c.width-a.ensures.bytes
    (rw c.byte_at-2.ensures at c.lifetime_of-lifetime.ensures) c.width.ensures.bytes
    c.if-b-w.false (sym c.byte_at-3.ensures ∙ c.if-byte_at-ne46.false)
