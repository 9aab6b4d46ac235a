-- The library's bytes of a number are the paper's:
-- dividing by 256 again and again is dividing once by its powers.
use native.Mathlib.Nat.{div-div-eq-div-mul}
use Rattle.paper.specs.Number.{bytes_of}
use Rattle.records.proofs.packing.bytes_of.Goals as goal

pub returns : goal.returns
unfolding bytes_of
returns c = simp div-div-eq-div-mul c.to_le_bytes.ensures
