-- The marks are of the table as lent, and the stores by them are those of the sweep.
-- So the first of them that the stop number allows are the first of the sweep's.
use Rattle.sweep.proofs.Cleared.{stores-by-marks}
use Rattle.sweep.proofs.stores.store_sweep.Goals as goal

pub returns : goal.returns
returns c =
    let r = c.clear_and_correct.ensures in
    (rw (stores-by-marks c.args.table.now c.mark_lost.new.reached.queue c.mark_lost.ensures) at r.0, r.1)
