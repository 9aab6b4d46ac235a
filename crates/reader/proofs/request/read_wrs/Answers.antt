-- The count and the names come first, then the declaration; the number of the part that is
-- taken goes into the request, and where there is none the answer is 9.
use mathlib.Core.Path.{sym, ap, ◌∙◌}
use Rattle.paper.specs.Declaration.{wrs_lifetime}
use Rattle.paper.specs.Request.{declared_at, read_wrs}
use Rattle.records.specs.Part.{meant_part}
use Rattle.declarations.proofs.Parts.{part-back, declared-back, declared-wrong, declared-parts}
use Rattle.reader.proofs.Verdicts.{read-refused, read-passed, needed-given, needed-none, exits}
use Rattle.reader.proofs.request.read_wrs.Goals as goal

pub returns-in_err-check_form : goal.returns-in_err-check_form
unfolding read_wrs
returns-in_err-check_form c = exits _ _ c.from_residual.ensures.1 (read-refused _ _ c.in_err-check_form.ensures)

pub returns-in_default : goal.returns-in_default
unfolding read_wrs
returns-in_default c =
    let e = declared-wrong (declared_at c.args.line.now 1) (sym c.in_default.ensures) in
    rw c.whole.ensures (read-passed _ _ c.in_ok-check_form.ensures (needed-none _ _ _ (ap wrs_lifetime e)))

pub returns-in_default-taken_by_wrs : goal.returns-in_default-taken_by_wrs
unfolding read_wrs
returns-in_default-taken_by_wrs c =
    let e = declared-back (declared_at c.args.line.now 1) _ (sym c.in-Some.ensures) in
    let n = sym (part-back _) ∙ ap meant_part (sym c.in_default-taken_by_wrs.ensures) in
    rw c.whole-in_default-taken_by_wrs.ensures (read-passed _ _ c.in_ok-check_form.ensures (needed-none _ _ _ (ap wrs_lifetime e ∙ n)))

pub returns : goal.returns
unfolding read_wrs
returns c =
    let d = declared_at c.args.line.now 1 in
    let e = declared-back d _ (sym c.in-Some.ensures) in
    let q = declared-parts d _ (sym c.in-Some.ensures) in
    let n = sym (part-back _) ∙ ap meant_part (sym c.in-Some-taken_by_wrs.ensures) in
    rw (c.word_at.ensures, q) (read-passed _ _ c.in_ok-check_form.ensures (needed-given _ _ _ _ (ap wrs_lifetime e ∙ n)))
