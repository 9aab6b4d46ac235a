-- What was so far and what is left decide,
-- by the turn of the definition.
use mathlib.Core.Bool.{◌&&◌}
use mathlib.Core.Path.{◌≡◌}
use lib.ListN.{drop}
use Rattle.index_laws.specs.Climbs.{padding}
use Rattle.index.proofs.climb.all_padding.Given as goal

abbrev pub invariant-loop-number : goal.invariant-loop-number
invariant-loop-number l = (l.padded && padding (drop l.number-index l.x)) ≡ padding l.x
