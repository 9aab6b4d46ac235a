-- Four parts, each put after the ones before it, as far as the array goes.
-- So it has as much of the whole line as it holds.
use Rattle.lamp.proofs.Lines.{line-is}
use Rattle.lamp.proofs.line.compose.Goals as goal

pub returns : goal.returns
returns c =
    line-is c.args.words.now c.args.chain.now c.args.link.now _ _ _ _ _ _ _ _ _ c.put-n.ensures c.put-n-2.ensures c.put-n-3.ensures c.put-n-4.ensures
