-- The count and the names come first, then the declaration; the names are words 1 and 2, found by their places,
-- and what is granted has the parts of the declaration that is taken.
use Rattle.paper.specs.Declaration.{fit_dup}
use Rattle.paper.specs.Line.{word}
use Rattle.paper.specs.Request.{dup, old_from, new_to, parts_at, read_dup}
use Rattle.reader.specs.declared.request.Fault.TheVariants.{IllegalTakeWithin, IllegalGive}
use Rattle.reader.proofs.Verdicts.{both-refused, both-unfit, both-fit, exits}
use Rattle.reader.proofs.Functions.{from-word, to-word}
use Rattle.reader.proofs.request.read_dup.Goals as goal

pub returns-in_err-check_both : goal.returns-in_err-check_both
unfolding read_dup
returns-in_err-check_both c =
    exits _ _ c.from_residual.ensures.1
    (both-refused _ IllegalTakeWithin IllegalGive fit_dup c.args.line.now _ _ c.word_at-old.ensures c.word_at-new.ensures c.in_err-check_both.ensures)

pub returns-in_default : goal.returns-in_default
unfolding read_dup
returns-in_default c =
    let h = rw c.declared_at.ensures at c.in_default.ensures in
    rw c.whole.ensures
    (both-unfit _ IllegalTakeWithin IllegalGive fit_dup c.args.line.now _ _ c.word_at-old.ensures c.word_at-new.ensures _ c.in_ok-check_both.ensures h)

pub returns : goal.returns
unfolding read_dup
returns c =
    let line = c.args.line.now in
    let r = dup (old_from (word line 1)) (word line 1) (new_to (word line 2)) (word line 2) (parts_at line 3).code in
    let h = rw c.declared_at.ensures at c.in-Some.ensures in
    let t = both-fit r IllegalTakeWithin IllegalGive fit_dup line _ _ c.word_at-old.ensures c.word_at-new.ensures _ c.in_ok-check_both.ensures _ h in
    let from = from-word line _ _ c.word_at-old.ensures c.old_from.ensures in
    rw (from, to-word line _ _ c.word_at-new.ensures c.new_to.ensures, c.word_at-new.ensures, c.word_at-old.ensures, t.1) t.0
