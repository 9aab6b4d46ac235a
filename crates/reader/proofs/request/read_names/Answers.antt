-- The count and the names decide; of the words after the first
-- there is at least one where the count passed.
use mathlib.Core.Path.{refl}
use lib.ListN.{length, drop}
use Rattle.paper.specs.Line.{words}
use Rattle.paper.specs.Request.{misnamed, read_names}
use Rattle.reader.proofs.Verdicts.{read-refused, read-passed, exits}
use Rattle.reader.proofs.Functions.{count-least, rest-first, rest-count, removal-shown}
use Rattle.reader.proofs.request.read_names.Goals as goal

pub returns-in_err-check_form : goal.returns-in_err-check_form
unfolding read_names
returns-in_err-check_form c =
    let e = rw c.count_words.ensures at c.in_err-check_form.ensures in
    exits _ _ c.from_residual.ensures.1 (read-refused _ _ e)

pub returns : goal.returns
unfolding read_names
returns c =
    let a = c.args in
    let line = a.line.now in
    let e = rw c.count_words.ensures at c.in_ok-check_form.ensures in
    let l = count-least 1 8 line (misnamed 1 (length (words line)) line) _ e in
    rw (c.removal.ensures, c.arguments.ensures, c.word_at.ensures, ← rest-first line l, ← rest-count line l)
    (rw (removal-shown a.destroys (drop 1 (words line))) (read-passed _ _ e refl))
