-- The entry and the counts that its clearing moves, as many as were counted before any store.
-- At most two counts move.
use Rattle.elephant.proofs.Clearings.{one-cleared}
use Rattle.elephant.proofs.delete.clear_entry.Goals as goal

pub returns : goal.returns
returns c =
    rw (← c.gone-moves.ensures)
    (one-cleared _ _ _ _ _ _ _ _ c.count_moves-counts.ensures.0 c.take_out.ensures c.spent.ensures)
