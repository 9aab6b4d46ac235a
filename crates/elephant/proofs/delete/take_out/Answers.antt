-- The entry's store is a stage of one, and the counts are a stage that goes by the table after it.
-- Where the first is cut, no store is left for the second.
use Rattle.paper.specs.Record.{blank}
use Rattle.paper.specs.Store.{run}
use Rattle.effects.specs.Counts.{count_stores}
use Rattle.effects.proofs.Stages.{made-onto}
use Rattle.elephant.proofs.delete.take_out.Goals as goal

pub returns : goal.returns
unfolding blank run
returns c =
    let moves = c.args.moves in
    made-onto _ _ _ _ _ _ _ (λ u. count_stores u moves) c.put-rest.ensures c.recount.ensures
