-- The library's bytes of a number are the paper's,
-- of which these are the lowest.
use native.Mathlib.Nat.{div-div-eq-div-mul}
use Rattle.paper.specs.Number.{bytes_of}
use Rattle.records.proofs.bytes.three_bytes.Goals as goal

pub returns : goal.returns
unfolding bytes_of
returns c = rw (c.to_le_bytes.ensures, div-div-eq-div-mul)
