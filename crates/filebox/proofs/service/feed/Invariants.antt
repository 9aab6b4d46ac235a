-- After some bytes what is held shows the box fed with them.
-- Each turn feeds one byte more.
use lib.ListN.{take}
use Rattle.filebox.specs.Box.{fed}
use Rattle.filebox.specs.Shows.{Follows}
use Rattle.filebox.proofs.service.feed.Given as goal

abbrev pub invariant-loop-b : goal.invariant-loop-b
invariant-loop-b l =
    let i = l.initial.memory in
    let m = l.memory in
    Follows (λ x. fed x (take l.b-index l.input)) i.table i.index i.line i.text i.reply l.initial.now m.table m.index m.line m.text m.reply l.now
