-- DEL and DST, the two functions of several names: what holds of both is said once, of either.
-- Each goes name by name by the same definition, and only the plan of one name is its own.
use mathlib.Core.List.{List}
use mathlib.Core.Path.{◌≡◌, refl}
use Prim.Native.Nat.{ℕ}
use Rattle.paper.specs.Layout.{boxed}
use Rattle.paper.specs.Line.{Word}
use Rattle.paper.specs.Request.{Request, del, dst}
use Rattle.paper.specs.Effect.{del_plan, dst_plan}
use Rattle.paper.specs.Answer.{NamePlan, deleting, granted}

pub data Several : Type 0 where
  deletion : Several
  destruction : Several

-- what it asks, and the plan of one name
abbrev pub asking : Several → List Word → Request
asking deletion ws = del ws
asking destruction ws = dst ws

abbrev pub plan_of : Several → NamePlan
plan_of deletion = del_plan boxed
plan_of destruction = dst_plan boxed

-- granted, it goes name by name
pub grants-names : (s : Several) (t text reply : List ℕ) (u k : ℕ) (ws : List Word)
    → granted boxed t text reply u k (asking s ws) ≡ deleting (plan_of s) t u reply k 0 0 ws
unfolding granted
grants-names deletion t text reply u k ws = refl
grants-names destruction t text reply u k ws = refl
