-- The array has as much of the line as the box reads and one byte more, and a longer line gets the same answer.
-- So the request is the reading of the sheet, with no text and no store to make.
use Rattle.job.specs.Reading.{rds_line}
use Rattle.lamp.proofs.Turns.{keeps-read}
use Rattle.lamp.proofs.reading.read_one.Goals as goal

pub returns : goal.returns
unfolding rds_line
returns c =
    keeps-read c.args.table.now c.args.index.now c.args.chain.now c.args.back.now c.args.link.now _ c.args.user _ _ _ _
    c.compose-line.ensures c.request.ensures
