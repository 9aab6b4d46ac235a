-- The name is the first of the ten characters,
-- as many as its length.
use Rattle.records.proofs.Packed.{unpacked-first, length-characters}
use Rattle.records.proofs.packing.unpack.Goals as goal

pub returns : goal.returns
returns c =
    let x = c.args.x in (
      rw (c.characters.ensures, c.unpacked_length.ensures.0) (unpacked-first x),
      c.unpacked_length.ensures.1,
      rw c.characters.ensures (length-characters 10 x),
    )
