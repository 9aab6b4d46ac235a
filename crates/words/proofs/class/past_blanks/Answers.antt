-- A blank moves the place and leaves the reach as it is, and any other byte is where it ends;
-- past the line's end a reach stays where it begins.
use mathlib.Core.Logic.{by_cases}
use mathlib.Core.Path.{◌≡◌, sym, ◌∙◌}
use Prim.Native.Nat.{◌≤◌}
use native.Mathlib.Decide.{dec_le}
use native.Mathlib.Numerals.{add-one}
use native.Mathlib.Omega.{arith}
use lib.ListN.{length}
use borrow.Author.Tests.{eq-eqb, ne_eqb}
use Rattle.paper.specs.Line.{is_blank}
use Rattle.words.proofs.Reaches.{reach-end, reach-go, reach-stop}
use Rattle.words.proofs.class.past_blanks.Goals as goal

pub returns-then-line-i-ne32 : goal.returns-then-line-i-ne32
returns-then-line-i-ne32 c = sym (reach-stop is_blank _ _ (ne_eqb _ _ c.if-line-i-ne32.true)) ∙ c.loop-i.invariant

pub loop-i-preserved : goal.loop-i-preserved
loop-i-preserved c =
    let g = reach-go is_blank c.args.line.now c.loop-i.i c.loop-i-test.true in
    rw (add-one, ← g (eq-eqb _ _ c.if-line-i-ne32.false)) c.loop-i.invariant

pub returns : goal.returns
returns c =
    let p = c.args.p in
    let line = c.args.line.now in
    by_cases (dec_le p (length line))
    (λ (l : p ≤ length line).
    let e : c.max.result ≡ c.loop-i.i = omega (arith, c.max.ensures, c.loop-i-test.false, c.loop-i.auto.i-end l) in
    e ∙ sym (reach-end is_blank line c.loop-i.i c.loop-i-test.false) ∙ c.loop-i.invariant)
    (λ (l : ¬ (p ≤ length line)).
    let e : c.max.result ≡ p = omega (arith, c.max.ensures, l) in
    e ∙ sym (reach-end is_blank line p (omega (arith, l))))
