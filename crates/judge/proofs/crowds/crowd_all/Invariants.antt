-- The chains hold the entries passed with their numbers, none past its limit.
-- The first that is past it refutes the clause.
use mathlib.Core.Bool.{true}
use mathlib.Core.Path.{◌≡◌}
use Prim.Native.Nat.{ℕ, ◌<◌}
use Rattle.judge_laws.specs.Chains.{Chains}
use Rattle.judge_laws.specs.Mask.{without}
use Rattle.judge_laws.specs.Crowds.{place_of, roomy, Ranked}
use Rattle.judge.proofs.crowds.crowd_all.Given as goal

abbrev pub invariant-loop-i : goal.invariant-loop-i
invariant-loop-i l = Chains place_of (without l.gone l.t) l.buckets.head l.buckets.next l.i
    × Ranked (without l.gone l.t) l.rank l.i
    × ((j : ℕ) → j < l.i → roomy (without l.gone l.t) j ≡ true)
