use mathlib.Core.Path.{refl}
use native.Mathlib.Numerals.{add-one}
use lib.ListN.{drop_of_length-le}
use Rattle.paper.specs.Name.{counting}
use Rattle.words.proofs.Octals.{digit-least, digit-next, digit-fits}
use native.Mathlib.Omega.{arith}
use Rattle.words.proofs.octal.number_of.Goals as goal

pub loop-b-init : goal.loop-b-init
loop-b-init c = refl

pub overflow_mul-k : goal.overflow_mul-k
overflow_mul-k c =
    let a = c.args in
    let l = digit-fits a.base a.digits.now c.loop-b.k c.loop-b.b-index c.requires c.loop-b-test.true c.loop-b.invariant in
    record { fits = omega arith }

pub overflow_sub-b : goal.overflow_sub-b
overflow_sub-b c =
    let a = c.args in
    digit-least a.base a.digits.now c.loop-b.k c.loop-b.b-index c.requires c.loop-b-test.true c.loop-b.invariant

pub overflow_add-k : goal.overflow_add-k
overflow_add-k c =
    let a = c.args in
    let l = digit-fits a.base a.digits.now c.loop-b.k c.loop-b.b-index c.requires c.loop-b-test.true c.loop-b.invariant in
    record { fits = omega (arith, c.from.ensures) }

pub loop-b-preserved : goal.loop-b-preserved
loop-b-preserved c =
    let a = c.args in
    rw (add-one, c.from.ensures) (digit-next a.base a.digits.now c.loop-b.k c.loop-b.b-index c.requires c.loop-b-test.true c.loop-b.invariant)

pub returns : goal.returns
unfolding counting
returns c = rw (drop_of_length-le c.args.digits.now c.loop-b-test.false) at c.loop-b.invariant
