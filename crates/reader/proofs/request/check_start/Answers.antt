-- A name that starts as it may passes; of any other the base name decides,
-- as the check has them.
use Rattle.paper.specs.Request.{illegal_but}
use Rattle.words.specs.Place.{word_at}
use Rattle.laws.proofs.Tests.{clash}
use Rattle.reader.proofs.Verdicts.{check-holds, check-passes}
use Rattle.reader.proofs.request.check_start.Goals as goal
use Rattle.reader.proofs.request.check_start.Goals.{then-starts, else-starts}

pub returns-then-has_legal_base : goal.returns-then-has_legal_base
returns-then-has_legal_base c =
    let args = c.args in
    let check = illegal_but (λ w. args.starts) args.place (word_at args.line.now args.p) in
    elim c.if-starts.branch [
      | then-starts w ↦ check-passes check (rw w.if-starts.true)
      | else-starts w ↦ check-passes check (rw (w.if-starts.false, ← w.has_legal_base.ensures, ← w.value-is, c.if-has_legal_base.true))
    ]

pub returns-else-has_legal_base : goal.returns-else-has_legal_base
returns-else-has_legal_base c =
    let args = c.args in
    let check = illegal_but (λ w. args.starts) args.place (word_at args.line.now args.p) in
    elim c.if-starts.branch [
      | then-starts w ↦ clash (cc)
      | else-starts w ↦ check-holds check (rw (w.if-starts.false, ← w.has_legal_base.ensures, ← w.value-is, c.if-has_legal_base.false))
    ]
