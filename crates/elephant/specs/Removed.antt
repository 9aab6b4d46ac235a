-- What one name of a DEL or of a DST came to, and all of them.
use Rattle.std.specs.Prelude.{cond, Result, Ok, Err, List, [], ◌≡◌, ℕ, ◌-◌, leb, length, take}
use Rattle.paper.specs.Layout.{boxed}
use Rattle.paper.specs.Answer as paper
use Rattle.paper.specs.Answer.{plain, NamePlan, deleting}
use Rattle.paper.specs.Line.{Word}
use Rattle.paper.specs.Store.{Store, run}
use Rattle.paper.specs.Check.{Place, whole, Refusal, refusal_at, Verdict, passed, refused, verdict}
use Rattle.paper.specs.Walk.{State}
use Rattle.paper.specs.Effect.{Planned, plan, halted, del_at, del_plan, dst_at, dst_plan}
use Rattle.answers.specs.Number.{number_of}
use Rattle.answers.specs.Shown.{place_meant, refusal_meant, shown}
use Rattle.answers.specs.declared.Answer.{Answer}
use Rattle.elephant.specs.Done.{did}
use Rattle.elephant.specs.declared.removal.Removal.{Removal}
use Rattle.elephant.specs.declared.removal.Removal.TheVariants.{Delete, Destroy}
use Rattle.elephant.specs.declared.removal.Ended.{Ended}

-- one name of DEL and of DST, at its end and from its chain on
abbrev pub removal_at : Removal → List ℕ → Place → State → State → Planned
removal_at Delete t place d f = del_at t place d f
removal_at Destroy t place d f = dst_at t place f

abbrev pub removal_plan : Removal → NamePlan
removal_plan Delete = del_plan boxed
removal_plan Destroy = dst_plan boxed

-- a refusal with k stores left
pub record Halted : Type 0 where
  pub refusal : Refusal
  pub left : ℕ

abbrev pub ended_at : ℕ → Refusal → Halted
ended_at k f = record { refusal = f; left = k }

-- .. that one of the code is, and what one name came to with that in its place
abbrev pub ended_meant : Ended → Halted
ended_meant e = ended_at e.left (refusal_meant e.refusal)

abbrev pub left_told : Result ℕ Ended → Result ℕ Halted
left_told (Ok k) = Ok k
left_told (Err e) = Err (ended_meant e)

-- k stores are left and n needed: "If more were needed, the answer is 22"
abbrev pub spent : ℕ → ℕ → Result ℕ Halted
spent k n = cond (leb n k) (Ok (k - n)) (Err (ended_at 0 (refusal_at 22 (whole 0))))

-- what a plan comes to where k stores are left; a refusal leaves them
abbrev pub removed_by : ℕ → ℕ → Verdict → Result ℕ Halted
removed_by k n passed = spent k n
removed_by k n (refused f) = Err (ended_at k f)

abbrev pub removed_shown : ℕ → Planned → Result ℕ Halted
removed_shown k (plan p) = removed_by k (length p.stores) (verdict p.checks)
removed_shown k (halted f) = Err (ended_at k f)

-- the answer where no name after it is tried: so many names are done, and of the stop number what is not left is made
abbrev pub ended_answer : Ended → ℕ → ℕ → paper.Answer
ended_answer e names stop = plain (number_of e.refusal.number) (place_meant e.refusal.place) names (stop - e.left)

-- k stores are left: r is what some stores came to on t, and v the table after the first k of them
pub record Spent (t : List ℕ) (k : ℕ) (ss : List Store) (r : Result ℕ Ended) (v : List ℕ) : Type 0 where
  pub answer : left_told r ≡ spent k (length ss)
  pub table : v ≡ run t (take k ss)

-- one name, with k stores left: r is what its plan came to on t, and v the table after it
pub record Came (t : List ℕ) (k : ℕ) (x : Planned) (r : Result ℕ Ended) (v : List ℕ) : Type 0 where
  pub answer : left_told r ≡ removed_shown k x
  pub table : v ≡ (did t k x).table

-- all the names: the answer and the table after them
pub record CameAll (a : Removal) (t : List ℕ) (u k : ℕ) (names : List Word) (r : Answer) (v : List ℕ) : Type 0 where
  pub answer : r ≡ shown (deleting (removal_plan a) t u [] k 0 0 names).answer
  pub table : v ≡ (deleting (removal_plan a) t u [] k 0 0 names).table
