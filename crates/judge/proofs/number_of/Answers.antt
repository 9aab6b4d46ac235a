-- The two tests in the order of their numbers.
-- Soundness is only asked of a sized table, as the passes need; clearing leaves its length.
use mathlib.Core.Bool.{true, false}
use mathlib.Core.Path.{◌≡◌, sym, ◌∙◌}
use Rattle.judge_laws.specs.Counts.{sound_but}
use Rattle.judge_laws.specs.Mask.{without}
use Rattle.judge.specs.Judged.{judged_but}
use Rattle.paper.specs.Table.{sized}
use Rattle.judge_laws.proofs.Mask.{sized-without}
use Rattle.judge.proofs.number_of.Goals as goal

pub returns-then-not-is_sized : goal.returns-then-not-is_sized
unfolding judged_but
returns-then-not-is_sized c =
    let a = c.args in
    let w = sized-without a.gone.now a.table.now in
    let e : sized (without a.gone.now a.table.now) ≡ false = w ∙ sym c.is_sized.ensures ∙ c.if-not-is_sized.true in
    rw e

pub is_sound-requires : goal.is_sound-requires
is_sound-requires c = sym c.is_sized.ensures ∙ c.if-not-is_sized.false

pub returns-then-not-is_sound : goal.returns-then-not-is_sound
unfolding judged_but
returns-then-not-is_sound c =
    let a = c.args in
    let w = sized-without a.gone.now a.table.now in
    let s = sym c.is_sized.ensures ∙ c.if-not-is_sized.false in
    let e : sized (without a.gone.now a.table.now) ≡ true = w ∙ s in
    let f : sound_but a.counted (without a.gone.now a.table.now) ≡ false = sym c.is_sound.ensures ∙ c.if-not-is_sound.true in
    rw (e, f)

pub returns-else-not-is_sound : goal.returns-else-not-is_sound
unfolding judged_but
returns-else-not-is_sound c =
    let a = c.args in
    let w = sized-without a.gone.now a.table.now in
    let s = sym c.is_sized.ensures ∙ c.if-not-is_sized.false in
    let e : sized (without a.gone.now a.table.now) ≡ true = w ∙ s in
    let f : sound_but a.counted (without a.gone.now a.table.now) ≡ true = sym c.is_sound.ensures ∙ c.if-not-is_sound.false in
    rw (e, f)
