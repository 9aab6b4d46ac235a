-- With the counts not judged the number is that of the shape.
-- The records that go are those of the called function.
use mathlib.Core.Bool.{false}
use mathlib.Core.Path.{◌≡◌, ◌∙◌}
use Rattle.judge.specs.Judged.{judged_shape, judged_but}
use Rattle.judge_laws.specs.Mask.{without}
use Rattle.judge_laws.proofs.Counts.{sound-uncounted}
use Rattle.judge.proofs.judge_without.Goals as goal

pub returns : goal.returns
unfolding judged_shape judged_but
returns c =
    let a = c.args in
    let t = without a.gone.now a.table.now in
    let e : judged_but false t ≡ judged_shape t = rw (sound-uncounted t) in
    c.number_of.ensures ∙ e
