-- The heading's store is a stage of one, and the text cleared by position is the stage after it.
-- The two stages one after the other are the whole list.
use Rattle.paper.specs.Record.{blank}
use Rattle.effects.specs.Stage.{clear_stores}
use Rattle.effects.proofs.Stages.{made-both}
use Rattle.effects.proofs.stage.clear_file.Goals as goal

pub returns : goal.returns
unfolding clear_stores blank
returns c =
    made-both _ _ _ _ _ _ _ _ c.put-rest.ensures c.clear_texts.ensures
