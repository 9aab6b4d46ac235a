use mathlib.Core.Path.{refl, sym, ◌∙◌}
use native.Mathlib.Omega.{arith}
use Rattle.job.specs.Sheet.{count, start}
use Rattle.job.specs.Told.{beside}
use Rattle.lamp.proofs.Refusals.{start-more, start-within}
use Rattle.lamp.proofs.Turns.{sheet-at, read-sheet, text-sheet, reading-stops, reading-goes, reading-ends}
use Rattle.lamp.proofs.reading.read_all.Goals as goal

pub loop-i-init : goal.loop-i-init
unfolding start
loop-i-init c = (refl, refl)

pub returns-then-not-is_brought : goal.returns-then-not-is_brought
returns-then-not-is_brought c =
    let s = c.args.sent in
    let l = c.loop-i in
    let n = c.read_one-answer.result in
    let x = sheet-at _ s.texts.now _ _ _ _ _ c.link_of.ensures c.part.ensures c.length_of-length.ensures.0 l.invariant.1 in
    let a = read-sheet _ _ _ _ _ _ _ _ _ _ _ x c.read_one-answer.ensures in
    let b = sym (text-sheet n.number n.bytes c.read_one-answer.new.back _ _ _ _ x c.is_brought.ensures) in
    let e = l.invariant.0 ∙ reading-stops s.sheets.now s.texts.now s.chain.now s.user l.i (omega arith)
    (beside l.table l.index) _ _ l.back _ _ a (b ∙ c.if-not-is_brought.true) in
    rw e (record { result = refl; state = refl; back = refl })

pub overflow_add-at : goal.overflow_add-at
overflow_add-at c =
    let s = c.args.sent in
    omega (arith, c.length_of-length.ensures.0, start-within s.sheets.now c.loop-i.i (count s.sheets.now) (omega arith))

pub loop-i-preserved : goal.loop-i-preserved
loop-i-preserved c =
    let s = c.args.sent in
    let l = c.loop-i in
    let n = c.read_one-answer.result in
    let x = sheet-at _ s.texts.now _ _ _ _ _ c.link_of.ensures c.part.ensures c.length_of-length.ensures.0 l.invariant.1 in
    let a = read-sheet _ _ _ _ _ _ _ _ _ _ _ x c.read_one-answer.ensures in
    let b = sym (text-sheet n.number n.bytes c.read_one-answer.new.back _ _ _ _ x c.is_brought.ensures) in (
      l.invariant.0 ∙ reading-goes s.sheets.now s.texts.now s.chain.now s.user l.i (omega arith)
          (beside l.table l.index) _ _ l.back _ _ a (b ∙ c.if-not-is_brought.false),
      rw (start-more s.sheets.now l.i) (omega (arith, c.length_of-length.ensures.0)),
    )

pub returns : goal.returns
returns c =
    let s = c.args.sent in
    let l = c.loop-i in
    let e = l.invariant.0 ∙ reading-ends s.sheets.now s.texts.now s.chain.now s.user l.i (omega arith) (beside l.table l.index) l.back _ in
    rw e (record { result = refl; state = refl; back = refl })
