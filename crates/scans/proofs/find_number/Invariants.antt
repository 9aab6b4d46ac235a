-- No record below i bears the name there: so the first that does is the one found,
-- and none is where the scan comes to the end.
use mathlib.Core.Bool.{false}
use mathlib.Core.Path.{◌≡◌}
use Rattle.paper.specs.Scan.{any_below}
use Rattle.paper.specs.Layout.{unpacked, boxed}
use Rattle.paper.specs.Table.{rec}
use Rattle.paper.specs.Entry.{bears}
use Rattle.records.specs.Shown.{holder_shown}
use Rattle.scans.proofs.find_number.Given as goal

abbrev pub invariant-loop-i : goal.invariant-loop-i
invariant-loop-i l = any_below (λ j. bears boxed (holder_shown l.d) (unpacked l.number) (rec l.table j)) l.i ≡ false
