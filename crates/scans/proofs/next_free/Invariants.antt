-- No record from the start on and below i is free: so the first that is, is the next one,
-- and where the scan comes to the end there is none.
use mathlib.Core.Path.{◌≡◌}
use mathlib.Core.Bool.{false}
use Rattle.paper.specs.Scan.{any_below}
use Rattle.scans.specs.Free.{free_from}
use Rattle.scans.proofs.next_free.Given as goal

abbrev pub invariant-loop-i : goal.invariant-loop-i
invariant-loop-i l = any_below (free_from l.table l.fn.from.0) l.i ≡ false
