-- After p turns the stores of the positions below p are made as far as they are allowed, and each turn makes one more.
-- At the end these are as many positions as there are to clear.
use Rattle.effects.specs.Stage.{Made, clear_texts}
use Rattle.effects.proofs.stage.clear_texts.Given as goal

abbrev pub invariant-loop-p : goal.invariant-loop-p
invariant-loop-p l = Made l.initial.table l.table l.initial.rest l.rest (clear_texts l.rooms l.p)
