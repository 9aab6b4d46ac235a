-- The byte at a record's place is the record's first,
-- since the record is there.
use native.Mathlib.Omega.{arith}
use native.Mathlib.Nat.{add-zero}
use Rattle.laws.proofs.Lay.{byte-rec}
use Rattle.scans.proofs.is_kind.Goals as goal

pub returns : goal.returns
returns c = rw (byte-rec _ _ 0 (omega arith), add-zero)
