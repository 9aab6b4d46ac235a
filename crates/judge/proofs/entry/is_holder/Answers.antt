-- Past the table there is no record, and what holds an entry was found to be a directory.
-- Any other is read.
use native.Mathlib.Omega.{arith}
use borrow.Author.Tests.{le-ltb}
use Rattle.judge_laws.proofs.Mask.{rec-none}
use Rattle.judge.proofs.entry.is_holder.Goals as goal

pub returns-else-d-t : goal.returns-else-d-t
returns-else-d-t c =
    let a = c.args in
    rw (rec-none a.gone.now a.t.now (omega arith) a.d (omega arith)) (le-ltb _ _ c.if-d-t.false)
