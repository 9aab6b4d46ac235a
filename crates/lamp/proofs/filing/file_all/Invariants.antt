-- What is left of the job, from the table, its index and the stores that are left, ends as the whole job does; each turn takes one sheet.
-- The texts are all there, so no place goes past them; the measure is the sheets that are left.
use mathlib.Core.Path.{◌≡◌}
use Prim.Native.Nat.{◌+◌, ◌-◌, ◌≤◌}
use lib.ListN.{drop}
use Rattle.job.specs.Sheet.{start, job}
use Rattle.job.specs.Told.{beside}
use Rattle.job.specs.Filing.{kept_filing}
use Rattle.lamp.proofs.filing.file_all.Given as goal

abbrev pub invariant-loop-i : goal.invariant-loop-i
invariant-loop-i l =
    let j = job l.sent.sheets.now l.sent.texts.now in
    (kept_filing (beside l.initial.table l.initial.index) l.sent.chain.now l.sent.user l.stop 1 0 j
    ≡ kept_filing (beside l.table l.index) l.sent.chain.now l.sent.user l.left (l.i + 1) (l.stop - l.left) (drop l.i j))
    × (l.left ≤ l.stop)
    × (l.at ≡ start l.sent.sheets.now l.i)
