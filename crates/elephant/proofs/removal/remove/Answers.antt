use mathlib.Core.Path.{refl}
use native.Mathlib.Omega.{arith}
use Rattle.std.specs.Prelude.{Ok, Err}
use Rattle.elephant.proofs.Turns.{deleting-start, deleting-end, deleting-ended, deleting-on}
use Rattle.elephant.proofs.removal.remove.Goals as goal

pub loop-names-init : goal.loop-names-init
loop-names-init c =
    let a = c.args in
    deleting-start a.removal a.table.now a.line.now a.user a.stop a.first c.requires.0 c.requires.1

pub returns-in-Err : goal.returns-in-Err
returns-in-Err c =
    let a = c.args in
    let l = c.loop-names in
    deleting-ended a.removal a.table.now a.line.now a.user a.stop l.table l.name l.names l.left l.invariant (omega (arith, c.requires.2))
    (Err c.in-Err.ended) _ c.in-Err.ensures c.in-Err.ended refl _ c.answer.ensures

pub loop-names-preserved : goal.loop-names-preserved
loop-names-preserved c =
    let a = c.args in
    let l = c.loop-names in
    deleting-on a.removal a.table.now a.line.now a.user a.stop l.table l.name l.names l.left l.invariant (omega (arith, c.requires.2))
    (Ok c.in-Ok.rest) _ c.in-Ok.ensures c.in-Ok.rest refl c.next_word-name.result c.next_word-name.ensures (omega (arith, l.invariant.size))

pub returns : goal.returns
returns c =
    let a = c.args in
    let l = c.loop-names in
    deleting-end a.removal a.table.now a.line.now a.user a.stop l.table l.name l.names l.left l.invariant (omega (arith, c.requires.2))
    a.count (omega (arith, c.loop-names-test.false, l.auto.names-end)) _ c.placeless.ensures
