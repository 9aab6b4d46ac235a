-- A last code of 0 is padding and goes; the first other one ends the name.
-- Where all are 0 there is no name.
use mathlib.Core.Path.{◌≡◌}
use Rattle.paper.specs.Layout.{unpacking, unpacked}
use Rattle.records.proofs.packing.unpacked_length.Given as goal

abbrev pub invariant-loop-n : goal.invariant-loop-n
invariant-loop-n l = unpacking l.n l.rest ≡ unpacked l.x
