use mathlib.Core.Bool.{true}
use native.Mathlib.Omega.{arith}
use Rattle.filebox.specs.Shows.{Came}
use Rattle.filebox.proofs.Steps.{came-none, came-more, came-over}
use Rattle.filebox.proofs.serve.Goals as goal
use Rattle.filebox.proofs.serve.Goals.{else-loop-test, then-loop-test+then-n-eq0}

pub loop-init : goal.loop-init
loop-init c =
    let a = c.args in
    let m = a.memory.now in
    came-none m.table m.index m.line m.text m.reply c.new-held.result true (omega arith) (omega arith) c.new-held.ensures

pub loop-preserved : goal.loop-preserved
loop-preserved c =
    let l = c.loop in
    let n = l.memory in
    came-more _ _ _ _ n.table n.index n.line n.text n.reply l.held _ _ _ _ _ _ c.feed-held.ensures l.invariant

pub returns : goal.returns
returns c =
    let b = c.args.memory.now in
    let l = c.loop in
    let n = l.memory in
    let e = c.loop-test in
    let m = e.memory in
    let came : Came b.table b.index b.reply m.table m.index m.line m.text m.reply e.held = elim e.branch [
      | else-loop-test w ↦ rw (w.memory-is, w.held-is) l.invariant
      | then-loop-test+then-n-eq0 w ↦
          rw (w.memory-is, w.held-is) (came-more _ _ _ _ n.table n.index n.line n.text n.reply l.held _ _ _ _ _ _ w.feed-held.ensures l.invariant)
    ] in
    came-over b.table b.index b.reply m.table m.index m.line m.text m.reply e.held _ _ _ _ _ _ came c.finish.ensures
