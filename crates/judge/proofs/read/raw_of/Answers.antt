-- The byte of the table at the record's place is the record's byte.
-- The record is in the table, so the byte is there.
use mathlib.Core.Path.{sym}
use native.Mathlib.Omega.{arith}
use Rattle.laws.proofs.Lay.{byte-rec}
use Rattle.judge.proofs.read.raw_of.Goals as goal

pub returns : goal.returns
returns c = sym (byte-rec c.args.t.now c.args.i c.args.j (omega arith))
