-- The slot that is computed is the definition's, since the heading is in the table and the position below what it asks for.
-- So a mark that was set before refutes soundness, and the mark that is set is the record's; text that stays is the table's own.
use mathlib.Core.Bool.{true, true≢false}
use mathlib.Core.Path.{◌≡◌, sym, ◌∙◌}
use native.Mathlib.Omega.{arith}
use Rattle.judge_laws.specs.Mask.{without}
use Rattle.paper.specs.Sound.{text_as_above, in_place}
use Rattle.paper.specs.Table.{rec}
use Rattle.judge_laws.proofs.Mask.{length_without}
use Rattle.judge_laws.proofs.Pass.{text-right, text-refuted, slot-below, slot-taken, slot-marked}
use Rattle.judge_laws.proofs.Text.{place-below}
use Rattle.laws.proofs.Lay.{Whole}
use Rattle.laws.proofs.Tests.{and_left, and_right}
use Rattle.judge.proofs.text.text_turn.Goals as goal

pub is_text_right-requires : goal.is_text_right-requires
is_text_right-requires c =
    let q = length_without c.args.gone.now c.args.t.now in
    (omega arith, rw (← q) c.requires.1.whole, rw (← q) c.requires.1.small, c.two_of-p.ensures.0, c.two_of-p.ensures.1)

pub returns-then-not-is_text_right : goal.returns-then-not-is_text_right
returns-then-not-is_text_right c =
    let g = c.args.gone.now in
    let t = c.args.t.now in
    let w : Whole t = rw (← (length_without g t)) c.requires.1.whole in (
      λ f. text-refuted g t w c.args.start.now c.args.mark.now c.args.i c.requires.1 c.requires.0 c.requires.2 c.requires.3 c.requires.4
          c.two_of-h.result 0 c.two_of-h.ensures.0 (sym c.is_text_right.ensures ∙ c.if-not-is_text_right.true),
      λ f. absurd (true≢false (sym f)),
    )

pub bounds-start-h : goal.bounds-start-h
bounds-start-h c =
    let s = without c.args.gone.now c.args.t.now in
    let r = rec c.args.t.now c.args.i in
    let e : in_place (rec s c.two_of-h.result) r ≡ true = and_right (text_as_above 0 r) _ (sym c.is_text_right.ensures ∙ c.if-not-is_text_right.false) in
    let l = place-below s c.two_of-h.result r c.requires.1.whole e in
    omega (arith, c.requires.1.small)

pub bounds-mark-s : goal.bounds-mark-s
bounds-mark-s c =
    let g = c.args.gone.now in
    let t = c.args.t.now in
    let r = rec t c.args.i in
    let w : Whole t = rw (← (length_without g t)) c.requires.1.whole in
    let b = sym c.is_text_right.ensures ∙ c.if-not-is_text_right.false in
    let q = and_right (text_as_above 0 r) _ b in
    slot-below g t w c.args.start.now c.args.mark.now c.args.i c.requires.1 c.requires.0 c.requires.2 c.requires.3 c.requires.4
    c.two_of-h.result c.from.result c.two_of-h.ensures.0 c.two_of-p.result c.two_of-p.ensures.0 q c.from.ensures

pub returns-then-mark-s-ne0 : goal.returns-then-mark-s-ne0
returns-then-mark-s-ne0 c =
    let g = c.args.gone.now in
    let t = c.args.t.now in
    let r = rec t c.args.i in
    let w : Whole t = rw (← (length_without g t)) c.requires.1.whole in
    let b = sym c.is_text_right.ensures ∙ c.if-not-is_text_right.false in
    let q = and_right (text_as_above 0 r) _ b in (
      λ f. slot-taken g t w c.args.start.now c.args.mark.now c.args.i c.requires.1 c.requires.0 c.requires.2 c.requires.3 c.requires.4
          c.two_of-h.result c.from.result c.two_of-h.ensures.0 c.two_of-p.result c.two_of-p.ensures.0 q
          c.from.ensures c.if-mark-s-ne0.true,
      λ f. absurd (true≢false (sym f)),
    )

pub bounds-mark-s-2 : goal.bounds-mark-s-2
bounds-mark-s-2 c =
    let g = c.args.gone.now in
    let t = c.args.t.now in
    let r = rec t c.args.i in
    let w : Whole t = rw (← (length_without g t)) c.requires.1.whole in
    let b = sym c.is_text_right.ensures ∙ c.if-not-is_text_right.false in
    let q = and_right (text_as_above 0 r) _ b in
    slot-below g t w c.args.start.now c.args.mark.now c.args.i c.requires.1 c.requires.0 c.requires.2 c.requires.3 c.requires.4
    c.two_of-h.result c.from.result c.two_of-h.ensures.0 c.two_of-p.result c.two_of-p.ensures.0 q c.from.ensures

pub returns : goal.returns
returns c =
    let g = c.args.gone.now in
    let t = c.args.t.now in
    let r = rec t c.args.i in
    let w : Whole t = rw (← (length_without g t)) c.requires.1.whole in
    let b = sym c.is_text_right.ensures ∙ c.if-not-is_text_right.false in
    let q = and_right (text_as_above 0 r) _ b in
    let x = text-right g t w c.args.start.now c.args.mark.now c.args.i c.requires.1 c.requires.0 c.requires.2 c.requires.3 c.requires.4 in (
      λ f. absurd (true≢false f),
      λ f. (
        x ∙ and_left (text_as_above 0 r) _ b,
        slot-marked g t w c.args.start.now c.args.mark.now c.args.i c.requires.1 c.requires.0 c.requires.2 c.requires.3 c.requires.4
            c.two_of-h.result c.from.result c.two_of-h.ensures.0 c.two_of-p.result c.two_of-p.ensures.0 q
            c.from.ensures c.if-mark-s-ne0.false,
      ),
    )
