-- The count and the names come first, then the declaration; the names are words 1 and 2, found by their places,
-- and what is granted has the parts of the declaration that is taken.
use Rattle.paper.specs.Declaration.{fit_cpy}
use Rattle.paper.specs.Line.{word}
use Rattle.paper.specs.Request.{cpy, old_from, parts_at, read_cpy}
use Rattle.reader.specs.declared.request.Fault.TheVariants.{IllegalTake, Illegal}
use Rattle.reader.proofs.Verdicts.{both-refused, both-unfit, both-fit, exits}
use Rattle.reader.proofs.Functions.{from-word}
use Rattle.reader.proofs.request.read_cpy.Goals as goal

pub returns-in_err-check_both : goal.returns-in_err-check_both
unfolding read_cpy
returns-in_err-check_both c =
    exits _ _ c.from_residual.ensures.1
    (both-refused _ IllegalTake Illegal fit_cpy c.args.line.now _ _ c.word_at-old.ensures c.word_at-new.ensures c.in_err-check_both.ensures)

pub returns-in_default : goal.returns-in_default
unfolding read_cpy
returns-in_default c =
    let h = rw c.declared_at.ensures at c.in_default.ensures in
    rw c.whole.ensures
    (both-unfit _ IllegalTake Illegal fit_cpy c.args.line.now _ _ c.word_at-old.ensures c.word_at-new.ensures _ c.in_ok-check_both.ensures h)

pub returns : goal.returns
unfolding read_cpy
returns c =
    let line = c.args.line.now in
    let r = cpy (old_from (word line 1)) (word line 1) (word line 2) (parts_at line 3).lifetime (parts_at line 3).level (parts_at line 3).code in
    let h = rw c.declared_at.ensures at c.in-Some.ensures in
    let t = both-fit r IllegalTake Illegal fit_cpy line _ _ c.word_at-old.ensures c.word_at-new.ensures _ c.in_ok-check_both.ensures _ h in
    let from = from-word line _ _ c.word_at-old.ensures c.old_from.ensures in
    rw (from, c.word_at-new.ensures, c.word_at-old.ensures, t.1) t.0
