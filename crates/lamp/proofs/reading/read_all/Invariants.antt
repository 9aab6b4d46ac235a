-- What is left of the job, from the table, its index and the buffer as they are, ends as the whole job does; each turn takes one sheet.
-- The texts are all there, so no place goes past them; the measure is the sheets that are left.
use mathlib.Core.Path.{◌≡◌}
use Prim.Native.Nat.{◌+◌}
use lib.ListN.{drop}
use Rattle.job.specs.Sheet.{start, job}
use Rattle.job.specs.Told.{beside}
use Rattle.job.specs.Reading.{kept_reading}
use Rattle.lamp.proofs.reading.read_all.Given as goal

abbrev pub invariant-loop-i : goal.invariant-loop-i
invariant-loop-i l =
    let j = job l.sent.sheets.now l.sent.texts.now in
    (kept_reading (beside l.initial.table l.initial.index) l.sent.chain.now l.initial.back l.sent.user 1 j
    ≡ kept_reading (beside l.table l.index) l.sent.chain.now l.back l.sent.user (l.i + 1) (drop l.i j))
    × (l.at ≡ start l.sent.sheets.now l.i)
