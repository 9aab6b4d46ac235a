-- Before each read some input has led from the lent table to what is held.
-- Each turn feeds what was read.
use Rattle.filebox.specs.Shows.{Came}
use Rattle.filebox.proofs.serve.Given as goal

abbrev pub invariant-loop : goal.invariant-loop
invariant-loop l =
    let i = l.initial.memory in
    let m = l.memory in
    Came i.table i.index i.reply m.table m.index m.line m.text m.reply l.held
