use lib.Seq.{take_all}
use native.Mathlib.Omega.{arith}
use Rattle.filebox.proofs.Steps.{feed-none, feed-more}
use Rattle.filebox.proofs.service.feed.Goals as goal

pub loop-b-init : goal.loop-b-init
loop-b-init c =
    let a = c.args in
    let m = a.memory.now in
    feed-none a.input.now m.table m.index m.line m.text m.reply a.held

pub loop-b-preserved : goal.loop-b-preserved
loop-b-preserved c =
    let a = c.args in
    let m = a.memory.now in
    let l = c.loop-b in
    let n = l.memory in
    feed-more a.input.now l.b-index m.table m.index m.line m.text m.reply a.held
    n.table n.index n.line n.text n.reply l.now _ _ _ _ _ _ (omega arith) l.invariant c.step-now.ensures

pub returns : goal.returns
returns c = rw (← take_all c.loop-b.b-index c.args.input.now (omega arith)) c.loop-b.invariant
