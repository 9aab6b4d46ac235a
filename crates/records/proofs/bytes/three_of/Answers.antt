-- Past a record's 32 bytes a number is 0, since no byte is there;
-- elsewhere it is its low byte and the two-byte number above it, the law of one byte more.
use mathlib.Core.Path.{sym}
use native.Mathlib.Omega.{arith}
use Rattle.records.proofs.Stretches.{number_more, record-past}
use Rattle.records.proofs.bytes.three_of.Goals as goal

pub returns-then-place-ge-SIZE : goal.returns-then-place-ge-SIZE
returns-then-place-ge-SIZE c = sym (record-past 3 _ _ _ (omega arith))

pub returns : goal.returns
returns c = rw (c.from-low.ensures, c.from-rest.ensures, number_more, ← c.byte_of.ensures, ← c.two_of.ensures)
