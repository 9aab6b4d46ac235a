-- Counted up to i: one more record
-- adds one where it is an entry.
use mathlib.Core.Path.{◌≡◌}
use Prim.Native.Nat.{◌≤◌}
use Rattle.paper.specs.Scan.{count_below}
use Rattle.paper.specs.Index.{is_entry}
use Rattle.index.proofs.climb.count_entries.Given as goal

abbrev pub invariant-loop-i : goal.invariant-loop-i
invariant-loop-i l = (l.count ≤ l.i) × (l.count ≡ count_below (is_entry l.t) l.i)
