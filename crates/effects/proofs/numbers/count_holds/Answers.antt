-- Every entry of a sized table is counted;
-- of any other table no record is.
use Rattle.std.proofs.Common.{rules}
use Rattle.paper.specs.Entry.{stands, in_directory, crowd}
use Rattle.paper.specs.Table.{rec}
use Rattle.effects.proofs.numbers.count_holds.Goals as goal

pub returns : goal.returns
unfolding crowd
returns c = c.tally_table.ensures (λ i h. stands (in_directory h) (rec c.args.t.now i)) (λ i r l p. search rules)
