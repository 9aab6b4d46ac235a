-- Past a record's 32 bytes a number is 0, since no byte is there;
-- elsewhere it is its two bytes, the low one first.
use mathlib.Core.Path.{sym}
use native.Mathlib.Omega.{arith}
use Rattle.laws.proofs.Numbers.{number-two}
use Rattle.records.proofs.Stretches.{record-past}
use Rattle.records.proofs.bytes.two_of.Goals as goal

pub returns-then-place-ge-SIZE : goal.returns-then-place-ge-SIZE
returns-then-place-ge-SIZE c = sym (record-past 2 _ _ _ (omega arith))

pub returns : goal.returns
returns c = rw (c.from_le_bytes.ensures, number-two, ← c.byte_of-low.ensures, ← c.byte_of-high.ensures)
