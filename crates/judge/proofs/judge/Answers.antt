-- No record is marked, so none goes, and with the counts judged the number is that of soundness.
-- What is judged is the table itself.
use mathlib.Core.Bool.{true}
use mathlib.Core.Path.{◌≡◌, ap, ◌∙◌}
use Rattle.judge.specs.Judged.{judged, judged_but}
use Rattle.judge_laws.proofs.Counts.{sound-counted}
use Rattle.judge_laws.proofs.Mask.{without-zeros}
use Rattle.judge.proofs.judge.Goals as goal

pub returns : goal.returns
unfolding judged judged_but
returns c =
    let t = c.args.table.now in
    let e : judged_but true t ≡ judged t = rw (sound-counted t) in
    c.number_of.ensures ∙ ap (judged_but true) (without-zeros 2048 t) ∙ e
