-- The byte at a record's place is the record's; a record has no byte past its 32,
-- and of one past the last the stretch that is handed out is the record.
use mathlib.Core.Path.{sym}
use native.Mathlib.Omega.{arith}
use Rattle.laws.proofs.Lay.{byte-rec}
use Rattle.records.proofs.Stretches.{byte_past}
use Rattle.records.proofs.bytes.byte_of.Goals as goal

pub returns-then-rooms-i : goal.returns-then-rooms-i
returns-then-rooms-i c = rw (c.byte_at.ensures, c.record_at.ensures)

pub returns-then-place-ge-SIZE : goal.returns-then-place-ge-SIZE
returns-then-place-ge-SIZE c = sym (byte_past _ _ _ (omega arith))

pub overflow_mul-result : goal.overflow_mul-result
overflow_mul-result c = omega (arith, c.rooms.ensures)

pub overflow_add-result : goal.overflow_add-result
overflow_add-result c = omega (arith, c.rooms.ensures)

pub bounds-table-i : goal.bounds-table-i
bounds-table-i c = omega (arith, c.rooms.ensures)

pub returns : goal.returns
returns c = rw (byte-rec _ _ c.args.place (omega arith))
