-- The count and the names come first, then the declaration;
-- what is granted has the parts of the declaration that is taken.
use mathlib.Core.List.{◌∷◌}
use Rattle.paper.specs.Declaration.{fit_rewrite}
use Rattle.paper.specs.Line.{word}
use Rattle.paper.specs.Request.{rewrite, miscounted, misnamed, declared_at, read_rewrite}
use Rattle.reader.proofs.Verdicts.{form-refused, form-unfit, form-fit, exits}
use Rattle.reader.proofs.request.read_rewrite.Goals as goal

pub returns-in_err-check_form : goal.returns-in_err-check_form
unfolding read_rewrite
returns-in_err-check_form c =
    let line = c.args.line.now in
    exits _ _ c.from_residual.ensures.1
    (form-refused _ (miscounted 2 2 line ∷ misnamed 2 3 line) 1 fit_rewrite (declared_at line 1) c.in_err-check_form.ensures)

pub returns-in_default : goal.returns-in_default
unfolding read_rewrite
returns-in_default c =
    let line = c.args.line.now in
    let h = rw c.declared_at.ensures at c.in_default.ensures in
    rw c.whole.ensures
    (form-unfit _ (miscounted 2 2 line ∷ misnamed 2 3 line) 1 fit_rewrite (declared_at line 1) _ c.in_ok-check_form.ensures h)

pub returns : goal.returns
unfolding read_rewrite
returns c =
    let line = c.args.line.now in
    let h = rw c.declared_at.ensures at c.in-Some.ensures in
    let r = rewrite (word line 2) in
    let t = form-fit r (miscounted 2 2 line ∷ misnamed 2 3 line) 1 fit_rewrite (declared_at line 1) _ c.in_ok-check_form.ensures _ h in
    rw (c.word_at.ensures) t.0
