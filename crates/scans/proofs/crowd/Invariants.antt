-- After i turns the count is that of the entries below i that stand there,
-- and at the end i is the number of records.
use mathlib.Core.Path.{◌≡◌}
use Prim.Native.Nat.{◌≤◌}
use Rattle.paper.specs.Scan.{count_below}
use Rattle.paper.specs.Table.{rec}
use Rattle.paper.specs.Entry.{stands}
use Rattle.records.specs.Shown.{holder_shown}
use Rattle.scans.proofs.crowd.Given as goal

abbrev pub invariant-loop-i : goal.invariant-loop-i
invariant-loop-i l = (l.count ≡ count_below (λ j. stands (holder_shown l.d) (rec l.table j)) l.i) × (l.count ≤ l.i)
