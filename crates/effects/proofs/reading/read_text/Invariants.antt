-- What is still to be copied from the place on, copied there, is the whole copied to the front; so each turn copies the bytes of one
-- more record that belong to it, and where no record is left nothing is to be copied.
use mathlib.Core.Path.{◌≡◌}
use Prim.Native.Nat.{◌-◌, ◌≤◌}
use lib.ListN.{take, drop}
use lib.Seq.{sets}
use Rattle.effects.specs.Listed.{gathered}
use Rattle.effects.proofs.reading.read_text.Given as goal

abbrev pub invariant-loop-p : goal.invariant-loop-p
invariant-loop-p l = (sets l.into (l.most.0 - l.left) (take l.left (drop l.skip (gathered l.table l.rooms l.p l.p-end)))
    ≡ sets l.initial.into 0 (take l.most.0 (drop l.fn.first.0 (gathered l.table l.rooms l.fn.from.0 l.p-end))))
    × (l.left ≤ l.most.0)
