-- The records of a sized table are asked, all of them, since they are at most 2,048;
-- a table that is not sized leaves every count 0.
use Rattle.effects.proofs.Tallies.{none-counted}
use Rattle.effects.proofs.numbers.tally_table.Goals as goal

pub returns-then-not-is_sized : goal.returns-then-not-is_sized
returns-then-not-is_sized g c = λ is x. rw (← c.is_sized.ensures, c.if-not-is_sized.true) none-counted
