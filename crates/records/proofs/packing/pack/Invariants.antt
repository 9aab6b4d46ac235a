-- After j turns the number has the first j codes, and what is left of the name has the others:
-- together they are the whole. At the end nothing is left.
use mathlib.Core.Path.{◌≡◌}
use Prim.Native.Nat.{◌+◌, ◌*◌, ◌-◌, ◌^◌, ◌<◌}
use lib.ListN.{drop}
use Rattle.paper.specs.Layout.{packing, packed}
use Rattle.records.proofs.packing.pack.Given as goal

abbrev pub invariant-loop-j : goal.invariant-loop-j
invariant-loop-j l = (l.x * 64 ^ (10 - l.j) + packing (10 - l.j) (drop l.j l.name) ≡ packed l.name) × (l.x < 64 ^ l.j)
