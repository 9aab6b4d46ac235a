use mathlib.Core.Path.{refl, ◌∙◌}
use native.Mathlib.Omega.{arith}
use Rattle.job.specs.Sheet.{count, start}
use Rattle.job.specs.Told.{beside}
use Rattle.lamp.proofs.Refusals.{start-more, start-within}
use Rattle.lamp.proofs.Turns.{sheet-at, filing-starts, filing-stops, filing-goes, filing-ends}
use Rattle.lamp.proofs.filing.file_all.Goals as goal

pub loop-i-init : goal.loop-i-init
unfolding start
loop-i-init c =
    let s = c.args.sent in
    (filing-starts (beside c.args.table.now c.args.index.now) s.chain.now s.user c.args.stop _, omega arith, refl)

pub overflow_sub-left : goal.overflow_sub-left
overflow_sub-left c = omega (arith, c.file_one-answer.ensures.most)

pub returns-then-answer-ne0 : goal.returns-then-answer-ne0
returns-then-answer-ne0 c =
    let s = c.args.sent in
    let l = c.loop-i in
    let x = sheet-at _ s.texts.now _ _ _ _ _ c.link_of-link.ensures c.part-text.ensures c.length_of-length.ensures.0 l.invariant.2 in
    let a = rw x at c.file_one-answer.ensures in
    let e = l.invariant.0 ∙ filing-stops s.sheets.now s.texts.now s.chain.now s.user l.i (omega arith)
    (beside l.table l.index) _ _ c.args.stop l.left (omega arith) _ a c.if-answer-ne0.true in
    rw e (record { result = refl; state = refl })

pub overflow_add-at : goal.overflow_add-at
overflow_add-at c =
    let s = c.args.sent in
    omega (arith, c.length_of-length.ensures.0, start-within s.sheets.now c.loop-i.i (count s.sheets.now) (omega arith))

pub loop-i-preserved : goal.loop-i-preserved
loop-i-preserved c =
    let s = c.args.sent in
    let l = c.loop-i in
    let x = sheet-at _ s.texts.now _ _ _ _ _ c.link_of-link.ensures c.part-text.ensures c.length_of-length.ensures.0 l.invariant.2 in
    let a = rw x at c.file_one-answer.ensures in (
      l.invariant.0 ∙ filing-goes s.sheets.now s.texts.now s.chain.now s.user l.i (omega arith)
          (beside l.table l.index) _ _ c.args.stop l.left (omega arith) _ a c.if-answer-ne0.false,
      omega arith,
      rw (start-more s.sheets.now l.i) (omega (arith, c.length_of-length.ensures.0)),
    )

pub returns : goal.returns
returns c =
    let s = c.args.sent in
    let l = c.loop-i in
    let e = l.invariant.0 ∙ filing-ends s.sheets.now s.texts.now s.chain.now s.user l.i (omega arith) (beside l.table l.index) l.left _ _ in
    rw e (record { result = refl; state = refl })
