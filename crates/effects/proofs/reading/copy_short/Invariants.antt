-- After j turns the first j bytes that fit are copied;
-- all that fit have a place.
use mathlib.Core.Path.{◌≡◌}
use Prim.Native.Nat.{◌+◌, ◌≤◌}
use lib.ListN.{length, take}
use lib.Seq.{sets}
use Rattle.effects.proofs.reading.copy_short.Given as goal

abbrev pub invariant-loop-j : goal.invariant-loop-j
invariant-loop-j l = (l.into ≡ sets l.initial.into l.at (take l.j l.fit)) × (length l.into ≡ length l.initial.into)
    × (l.at + length l.fit ≤ length l.initial.into)
