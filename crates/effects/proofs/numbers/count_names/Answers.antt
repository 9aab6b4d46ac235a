-- Every entry of a sized table is counted;
-- of any other table no record is.
use Rattle.std.proofs.Common.{rules}
use Rattle.paper.specs.Count.{namings}
use Rattle.paper.specs.Record.{names}
use Rattle.paper.specs.Table.{rec}
use Rattle.effects.proofs.numbers.count_names.Goals as goal

pub returns : goal.returns
unfolding namings
returns c = c.tally_table.ensures (λ i h. names h (rec c.args.t.now i)) (λ i r l p. search rules)
