-- Past a record's 32 bytes a number is 0, since no byte is there;
-- elsewhere it is two numbers of two bytes, the low one first.
use mathlib.Core.Path.{sym}
use native.Mathlib.Omega.{arith}
use Rattle.laws.proofs.Numbers.{number-four}
use Rattle.records.proofs.Stretches.{record-past}
use Rattle.records.proofs.bytes.four_of.Goals as goal

pub returns-then-place-ge-SIZE : goal.returns-then-place-ge-SIZE
returns-then-place-ge-SIZE c = sym (record-past 4 _ _ _ (omega arith))

pub returns : goal.returns
returns c = rw (c.from-low.ensures, c.from-high.ensures, number-four, ← c.two_of.ensures, ← c.two_of-2.ensures)
