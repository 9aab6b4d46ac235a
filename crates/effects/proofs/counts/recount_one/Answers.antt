-- A heading whose counts do not move has no store; else the counts read, with one more or one less, are laid over it.
-- They are read from the table as it is then.
use Rattle.effects.proofs.Recounts.{made-unmoved, made-moved}
use mathlib.Core.Path.{sym, ◌∙◌}
use Rattle.effects.proofs.counts.recount_one.Goals as goal

pub returns-then-not-is_moved : goal.returns-then-not-is_moved
returns-then-not-is_moved c =
    made-unmoved c.args.table.now _ c.args.moves _
    (rw c.rooms.ensures at (sym c.is_moved.ensures ∙ c.if-not-is_moved.true))

pub returns : goal.returns
returns c =
    made-moved c.args.table.now _ _ _ c.args.moves _ c.recounted-bytes.result
    (rw c.rooms.ensures at (sym c.is_moved.ensures ∙ c.if-not-is_moved.false))
    (rw (
      c.count_after-held.ensures,
      c.count_after-named.ensures,
      c.held_count.ensures.0,
      c.named_count.ensures.0,
    ) at c.recounted-bytes.ensures)
    c.put.ensures
