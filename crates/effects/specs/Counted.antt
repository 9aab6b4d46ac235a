-- "Exactly the first k stores are made. If more were needed, the answer is 22": a stage of stores, with the count of what is needed.
use Rattle.std.specs.Prelude.{List, ◌≡◌, ℕ, ◌+◌, ◌-◌, length, take}
use Rattle.paper.specs.Store.{Store, run}

-- where m stores were needed before, table t has become u by those of the stage that the stop number k allows, and n are needed with it
pub record Counted (t u : List ℕ) (k m n : ℕ) (stage : List Store) : Type 0 where
  pub table : u ≡ run t (take (k - m) stage)
  pub count : n ≡ m + length stage
