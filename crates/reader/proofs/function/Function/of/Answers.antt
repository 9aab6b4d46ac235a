-- By its length and its letters a name is a function's or none's, which the check finds by the lemma `by_letters`
-- but for a first letter that starts no name, and for a D that no name has before the next letter.
use native.Mathlib.Omega.{arith}
use Rattle.reader.proofs.Functions.{no_three, no_d, no_four}
use Rattle.reader.proofs.function.Function.of.Goals as goal

pub returns-in_default-14 : goal.returns-in_default-14
returns-in_default-14 c = no_d c.args.name.now (omega arith) (omega arith) (omega arith) (omega arith) (omega arith) (omega arith)

pub returns-in_default-17 : goal.returns-in_default-17
returns-in_default-17 c = no_three c.args.name.now (omega arith) (omega arith) (omega arith) (omega arith) (omega arith) (omega arith)

pub returns-in_default-24 : goal.returns-in_default-24
returns-in_default-24 c = no_four c.args.name.now (omega arith) (omega arith) (omega arith)
