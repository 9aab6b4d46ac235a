-- "Exactly the first k stores are made. If more were needed, the answer is 22": all stores of a call, cut by the stop number.
use Rattle.std.specs.Prelude.{List, ◌≡◌, ℕ, ◌≤◌, ◌<◌, length, take}
use Rattle.paper.specs.Store.{Store, run}

-- table t has become u by the first k of the stores; n is how many they are, or more than k where k does not allow them all
pub record Allowed (t u : List ℕ) (k n : ℕ) (stores : List Store) : Type 0 where
  pub table : u ≡ run t (take k stores)
  pub all : n ≤ k → n ≡ length stores
  pub more : k < n → k < length stores
