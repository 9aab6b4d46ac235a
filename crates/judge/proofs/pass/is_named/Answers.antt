-- The number says whether the heading is named, and both numbers what it must say where counts are judged.
-- No other record is asked, nor a heading that goes.
use mathlib.Core.Bool.{true, false, not}
use mathlib.Core.Path.{◌≡◌, sym, ap, ◌∙◌}
use native.Mathlib.Omega.{arith}
use borrow.Author.Tests.{eq-eqb, ne_eqb}
use Rattle.paper.specs.Count.{counts_right}
use Rattle.paper.specs.Entry.{named}
use Rattle.paper.specs.Sound.{implies}
use Rattle.paper.specs.Table.{rec}
use Rattle.laws.proofs.Tests.{and-no-left}
use Rattle.judge_laws.specs.Mask.{without}
use Rattle.judge_laws.proofs.Mask.{rooms-without}
use Rattle.records.proofs.Numbered.{namings-all, holdings-all, named-tells, counts-tell}
use Rattle.judge_laws.proofs.Counts.{headed-other, headed-gone, headed-stays}
use Rattle.judge.proofs.pass.is_named.Goals as goal
use Rattle.judge.proofs.pass.is_named.Goals.{then-raw_of-ne-KIND-via-then-raw_of-ne-KIND, then-raw_of-ne-KIND-via-else-raw_of-ne-KIND+then-gone-i-ne0}

pub returns-then-raw_of-ne-KIND : goal.returns-then-raw_of-ne-KIND
returns-then-raw_of-ne-KIND c =
    elim c.then-raw_of-ne-KIND.branch [
      | then-raw_of-ne-KIND-via-then-raw_of-ne-KIND w ↦
          sym (headed-other c.args.gone.now c.args.t.now c.requires.1 c.args.counted c.args.i (λ q. w.if-raw_of-ne-KIND.true (c.raw_of.ensures ∙ q)))
      | then-raw_of-ne-KIND-via-else-raw_of-ne-KIND+then-gone-i-ne0 w ↦
          sym (headed-gone c.args.gone.now c.args.t.now c.requires.1 c.args.counted c.args.i
          (sym c.raw_of.ensures ∙ w.if-raw_of-ne-KIND.false) (ne_eqb _ _ w.if-gone-i-ne0.true))
    ]

pub returns-else-n-ne0 : goal.returns-else-n-ne0
returns-else-n-ne0 c =
    let v = c.args.t.now in
    let t = without c.args.gone.now v in
    let i = c.args.i in
    let x = namings-all t c.args.counts.now.named (rw (rooms-without c.args.gone.now v) c.requires.3) in
    let n : named t i ≡ false = sym (named-tells t c.args.counts.now.named i x (omega arith)) ∙ ap not (eq-eqb _ _ c.if-n-ne0.false) in
    ap not (eq-eqb _ _ c.if-n-ne0.false) ∙ sym (headed-stays c.args.gone.now v c.requires.1 c.args.counted i
    (sym c.raw_of.ensures ∙ c.if-raw_of-ne-KIND.false) (eq-eqb _ _ c.if-gone-i-ne0.false)
    ∙ and-no-left (named t i) (implies c.args.counted (counts_right t i (rec v i))) n)

pub returns-then-not-counted : goal.returns-then-not-counted
returns-then-not-counted c =
    let v = c.args.t.now in
    let t = without c.args.gone.now v in
    let i = c.args.i in
    let x = namings-all t c.args.counts.now.named (rw (rooms-without c.args.gone.now v) c.requires.3) in
    let n : named t i ≡ true = sym (named-tells t c.args.counts.now.named i x (omega arith)) ∙ ap not (ne_eqb _ _ c.if-n-ne0.true) in
    let e : c.args.counted ≡ false = c.if-not-counted.true in
    ap not e ∙ sym (headed-stays c.args.gone.now v c.requires.1 c.args.counted i
    (sym c.raw_of.ensures ∙ c.if-raw_of-ne-KIND.false) (eq-eqb _ _ c.if-gone-i-ne0.false)
    ∙ rw (n, e))

pub returns-else-not-counted : goal.returns-else-not-counted
returns-else-not-counted c =
    let v = c.args.t.now in
    let t = without c.args.gone.now v in
    let i = c.args.i in
    let x = namings-all t c.args.counts.now.named (rw (rooms-without c.args.gone.now v) c.requires.3) in
    let y = holdings-all t c.args.counts.now.held (rw (rooms-without c.args.gone.now v) c.requires.4) in
    let n : named t i ≡ true = sym (named-tells t c.args.counts.now.named i x (omega arith)) ∙ ap not (ne_eqb _ _ c.if-n-ne0.true) in
    let e : c.args.counted ≡ true = c.if-not-counted.false in
    c.is_told.ensures
    ∙ rw (c.from.ensures, c.from-else-not-counted.ensures)
    (counts-tell t c.args.counts.now.named c.args.counts.now.held i (rec v i) x y (omega arith)
    ∙ sym (headed-stays c.args.gone.now v c.requires.1 c.args.counted i
    (sym c.raw_of.ensures ∙ c.if-raw_of-ne-KIND.false) (eq-eqb _ _ c.if-gone-i-ne0.false)
    ∙ rw (n, e)))
