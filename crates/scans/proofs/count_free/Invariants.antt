-- After i turns the count is that of the free records below i;
-- at the end it is as long as the list of the free records.
use mathlib.Core.Path.{◌≡◌}
use Prim.Native.Nat.{◌≤◌}
use Rattle.paper.specs.Scan.{count_below}
use Rattle.paper.specs.Record.{is_kind}
use Rattle.paper.specs.Table.{rec}
use Rattle.scans.proofs.count_free.Given as goal

abbrev pub invariant-loop-i : goal.invariant-loop-i
invariant-loop-i l = (l.count ≡ count_below (λ j. is_kind 0 (rec l.table j)) l.i) × (l.count ≤ l.i)
