-- Every entry of a sized table that bears no mark is counted;
-- of any other table no record is.
use lib.Dec.{eqb}
use lib.ListN.{get_or}
use mathlib.Core.Bool.{◌&&◌}
use Rattle.std.proofs.Common.{rules}
use Rattle.paper.specs.Record.{names}
use Rattle.paper.specs.Table.{rec}
use Rattle.effects.specs.Tally.{namings_left}
use Rattle.effects.proofs.numbers.count_names_left.Goals as goal

pub returns : goal.returns
unfolding namings_left
returns c = c.tally_table.ensures (λ i h. names h (rec c.args.t.now i) && eqb (get_or c.args.gone.now i 0) 0) (λ i r l p. search rules)
