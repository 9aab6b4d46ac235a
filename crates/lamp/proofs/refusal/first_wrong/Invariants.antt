-- No sheet below i is wrong: so the first that is wrong is the one found,
-- and none is wrong where the scan comes to the end.
use mathlib.Core.Bool.{Bool, false}
use mathlib.Core.Path.{◌≡◌}
use Prim.Native.Nat.{ℕ}
use Rattle.paper.specs.Scan.{any_below}
use Rattle.job.specs.Sheet.{count}
use Rattle.lamp.specs.Refused.{Tells}
use Rattle.lamp.proofs.refusal.first_wrong.Given as goal

abbrev pub invariant-loop-i : goal.invariant-loop-i
invariant-loop-i g l =
    goal.F-IsAlwaysCallable g l.is_wrong × ((p : ℕ → Bool) → Tells (goal.F-post g l.is_wrong) p (count l.sheets) → any_below p l.i ≡ false)
