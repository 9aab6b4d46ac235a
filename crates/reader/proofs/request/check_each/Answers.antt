use mathlib.Core.Path.{refl, ◌∙◌}
use native.Mathlib.Numerals.{add-one}
use Rattle.paper.specs.Check.{verdict}
use Rattle.words.proofs.Words.{word-here, word_next, word-there, word_none}
use Rattle.reader.specs.Asked.{fault_check}
use Rattle.reader.proofs.Verdicts.{exits, each_none, each-past, each-refused, each-passed}
use Rattle.reader.proofs.request.check_each.Goals as goal

pub loop-k-init : goal.loop-k-init
loop-k-init c = (refl, c.word_at-p.ensures)

pub returns-then-line-p : goal.returns-then-line-p
unfolding verdict
returns-then-line-p c =
    let args = c.args in
    let line = args.line.now in
    let l = word_none line c.loop-k.k (rw (← c.loop-k.invariant.1) c.if-line-p.true) in
    rw (c.loop-k.invariant.0, each-past (fault_check args.fault) line c.loop-k.k args.b l)

pub returns-in_err-check_name : goal.returns-in_err-check_name
returns-in_err-check_name c =
    let args = c.args in
    let line = args.line.now in
    let k = c.loop-k.k in
    let l = word-there line k (rw (← c.loop-k.invariant.1) c.if-line-p.false) in
    let e = rw (word-here line k c.loop-k.p c.loop-k.invariant.1) at c.in_err-check_name.ensures in
    exits _ _ c.from_residual.ensures.1 (rw c.loop-k.invariant.0 (each-refused (fault_check args.fault) line k args.b c.loop-k-test.true l e))

pub loop-k-preserved : goal.loop-k-preserved
loop-k-preserved c =
    let args = c.args in
    let line = args.line.now in
    let k = c.loop-k.k in
    let l = word-there line k (rw (← c.loop-k.invariant.1) c.if-line-p.false) in
    let e = rw (word-here line k c.loop-k.p c.loop-k.invariant.1) at c.in_ok-check_name.ensures in
    let r = each-passed (fault_check args.fault) line k args.b c.loop-k-test.true l e in
    (c.loop-k.invariant.0 ∙ r, rw (add-one, word_next, ← c.loop-k.invariant.1) c.next_word-p.ensures)

pub returns : goal.returns
unfolding verdict
returns c =
    let args = c.args in
    rw (c.loop-k.invariant.0, each_none (fault_check args.fault) args.line.now c.loop-k.k args.b c.loop-k-test.false)
