-- After p turns the stores of the positions below p are made as far as they are allowed, and each turn makes one more.
-- At the end these are the positions of all blocks of the text.
use Rattle.paper.specs.Scan.{each_below}
use Rattle.effects.specs.Stage.{Made, text_store}
use Rattle.effects.proofs.stage.put_texts.Given as goal

abbrev pub invariant-loop-p : goal.invariant-loop-p
invariant-loop-p l = Made l.initial.table l.table l.initial.rest l.rest (each_below (text_store l.heading.0 l.rooms l.first l.text) l.p)
