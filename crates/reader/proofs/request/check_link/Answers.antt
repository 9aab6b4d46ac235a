-- The test that is called is the
-- one that the check has.
use Rattle.paper.specs.Request.{unlinked}
use Rattle.words.specs.Place.{word_at}
use Rattle.reader.proofs.Verdicts.{check-holds, check-passes}
use Rattle.reader.proofs.request.check_link.Goals as goal

pub returns-then-is_link_alone : goal.returns-then-is_link_alone
returns-then-is_link_alone c = check-passes (unlinked 2 (word_at c.args.line.now c.args.p)) (rw (← c.if-is_link_alone.ensures))

pub returns-else-is_link_alone : goal.returns-else-is_link_alone
returns-else-is_link_alone c =
    rw c.whole.ensures (check-holds (unlinked 2 (word_at c.args.line.now c.args.p)) (rw (← c.if-is_link_alone.ensures)))
