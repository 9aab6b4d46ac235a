-- The lower heading's stage is the first, and where both are one it is all.
-- Else the higher one's stage goes by the table that the first leaves.
use Rattle.effects.proofs.Recounts.{made-alone, made-two}
use Rattle.effects.proofs.counts.recount.Goals as goal

pub returns-then-low-high : goal.returns-then-low-high
returns-then-low-high c =
    let e = c.both_of.ensures in
    made-alone c.args.table.now _ _ _ c.args.moves _ _ e.0 e.1 c.if-low-high.true c.recount_one-rest.ensures

pub returns : goal.returns
returns c =
    let e = c.both_of.ensures in
    made-two c.args.table.now _ _ _ _ _ c.args.moves _ _ e.0 e.1 c.if-low-high.false c.recount_one-rest.ensures c.recount_one.ensures
