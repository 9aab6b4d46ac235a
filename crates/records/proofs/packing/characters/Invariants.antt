-- After 10 - k turns the last 10 - k characters stand, and what is left of the number has the codes before them:
-- one turn is one character more in front.
use mathlib.Core.Path.{◌≡◌}
use Prim.Native.Nat.{◌-◌, ◌/◌, ◌^◌}
use lib.ListN.{length, drop}
use Rattle.records.specs.Characters.{characters}
use Rattle.records.proofs.packing.characters.Given as goal

abbrev pub invariant-loop-k : goal.invariant-loop-k
invariant-loop-k l = (drop l.k l.r ≡ characters (10 - l.k) l.x) × (l.rest ≡ l.x / 64 ^ (10 - l.k)) × (length l.r ≡ 10)
