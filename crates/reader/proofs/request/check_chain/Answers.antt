-- The test that is called is
-- the one that the check has.
use Rattle.paper.specs.Request.{malformed}
use Rattle.words.specs.Place.{word_at}
use Rattle.words.proofs.Names.{some_link-back}
use Rattle.reader.proofs.Verdicts.{check-holds, check-passes}
use Rattle.reader.proofs.request.check_chain.Goals as goal

pub returns-then-is_well_formed : goal.returns-then-is_well_formed
returns-then-is_well_formed c =
    check-passes (malformed c.args.place (word_at c.args.line.now c.args.p)) (rw (← c.if-is_well_formed.ensures))

pub returns-else-is_well_formed : goal.returns-else-is_well_formed
returns-else-is_well_formed c =
    rw (c.unwrap_or.ensures, c.first_wrong.ensures, some_link-back)
    (check-holds (malformed c.args.place (word_at c.args.line.now c.args.p)) (rw (← c.if-is_well_formed.ensures)))
