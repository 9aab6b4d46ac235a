-- Past a record's 32 bytes a number is 0, since no byte is there;
-- elsewhere it is two numbers of four bytes, the low one first.
use mathlib.Core.Path.{sym}
use native.Mathlib.Omega.{arith}
use Rattle.records.proofs.Packed.{number-halves}
use Rattle.records.proofs.Stretches.{record-past}
use Rattle.records.proofs.bytes.eight_of.Goals as goal

pub returns-then-place-ge-SIZE : goal.returns-then-place-ge-SIZE
returns-then-place-ge-SIZE c = sym (record-past 8 _ _ _ (omega arith))

pub returns : goal.returns
returns c = rw (c.from-low.ensures, c.from-high.ensures, number-halves, ← c.four_of.ensures, ← c.four_of-2.ensures)
