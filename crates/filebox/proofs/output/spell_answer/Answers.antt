-- Each number is put after those before it,
-- and seven numbers of twenty digits fit.
use Rattle.filebox.proofs.Spelling.{lined}
use Rattle.filebox.proofs.output.spell_answer.Goals as goal

pub returns : goal.returns
returns c =
    lined c.args.a c.spell-place.ensures c.spell-link.ensures
    c.spell-names.ensures c.spell-displaced.ensures c.spell-bytes.ensures c.spell_wide-stores.ensures
    c.spell.ensures
