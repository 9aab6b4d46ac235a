-- The array has as much of the line as the box reads and one byte more, and a longer line gets the same answer.
-- So the request is the filing of the sheet.
use Rattle.job.specs.Filing.{wrs_line}
use Rattle.lamp.proofs.Turns.{asked-filed}
use Rattle.lamp.proofs.filing.file_one.Goals as goal

pub returns : goal.returns
unfolding wrs_line
returns c =
    asked-filed c.args.table.now c.args.index.now c.args.chain.now c.args.link.now c.args.text.now _ c.args.user c.args.left _ _ _ _
    c.compose-line.ensures c.request.ensures
