-- "Kind (byte 0)": the first byte of the record.
-- It is the table's at the record's place.
use native.Mathlib.Nat.{add-zero}
use native.Mathlib.Omega.{arith}
use Rattle.laws.proofs.Lay.{byte-rec}
use Rattle.index.proofs.climb.is_entry.Goals as goal

pub returns : goal.returns
returns c = let s = c.args in rw (byte-rec s.t.now s.i 0 (omega arith), add-zero)
