-- The byte of the table at the record's place is the record's byte.
-- The record is in the table, so the byte is there.
use mathlib.Core.Path.{sym, ◌∙◌}
use Prim.Native.Nat.{◌+◌, ◌*◌}
use native.Mathlib.Omega.{arith}
use Rattle.laws.proofs.Lay.{byte-rec}
use Rattle.index.proofs.read.byte_of.Goals as goal

pub returns : goal.returns
returns c =
    let s = c.args in
    let b = c.type_inv.t (s.i * 32 + s.j) in
    (c.from.ensures ∙ sym (byte-rec s.t.now s.i s.j (omega arith)), omega (arith, b))
