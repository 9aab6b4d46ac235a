-- What is left of the names is the whole: a name done leaves the table sound, and the word after it is the next name.
-- So the names that are done are those before the index.
use Rattle.elephant.proofs.Turns.{Deleting}
use Rattle.elephant.proofs.removal.remove.Given as goal

abbrev pub invariant-loop-names : goal.invariant-loop-names
invariant-loop-names l = Deleting l.removal l.initial.table l.line l.user l.stop l.table l.name l.names l.left
