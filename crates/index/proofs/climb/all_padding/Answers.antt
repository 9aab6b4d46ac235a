use mathlib.Core.Path.{◌∙◌}
use Rattle.index_laws.proofs.Turns.{pad-on, pad-end}
use Rattle.index.proofs.climb.all_padding.Goals as goal

pub loop-number-preserved : goal.loop-number-preserved
loop-number-preserved c = pad-on c.args.x.now c.loop-number.number-index c.loop-number.padded c.loop-number-test.true ∙ c.loop-number.invariant

pub returns : goal.returns
returns c = pad-end c.args.x.now c.loop-number.number-index c.loop-number.padded c.loop-number-test.false ∙ c.loop-number.invariant
