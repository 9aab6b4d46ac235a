-- A position with no whole block has its text by the records' own rule;
-- any other has the first eight bytes and then the block, which are the text record since the block is whole.
use mathlib.Core.Path.{◌≡◌, refl, ap, ◌∙◌}
use Prim.Native.Nat.{ℕ, ◌+◌, ◌*◌, ◌-◌}
use native.Mathlib.Omega.{arith}
use lib.ListN.{length, take, drop, length-take, length-drop, length-append}
use Rattle.paper.specs.Block.{block}
use Rattle.paper.specs.Record.{text_record}
use Rattle.effects.proofs.Blocks.{block-put}
use Rattle.effects.proofs.stage.text_at.Goals as goal

pub returns : goal.returns
unfolding block
returns c =
    let a = c.args in
    let at : ℕ = a.p * 24 in
    let s = c.copy_from_slice-2 in
    let n : length s.new.self ≡ 24 =
    simp (length-take, length-drop, length-append, c.copy_from_slice.ensures.len) at s.ensures.len in
    let k : at + 24 - at ≡ 24 = omega arith in
    block-put c.text_front.result c.copy_from_slice.new.self _ s.new.self a.heading.0 a.p c.text_front.ensures
    c.copy_from_slice.ensures.after refl n
    ∙ ap (text_record a.heading.0 a.p) (s.ensures.after ∙ ap (λ (m : ℕ). take m (drop at a.text.now)) k)
