-- What a request and a sweep with an index ask of table and list. A list is the true index where it is the same number by number, so only one is,
-- and that one is.
use mathlib.Core.Bool.{true}
use mathlib.Core.List.{List}
use mathlib.Core.Path.{◌≡◌, refl}
use Prim.Native.Nat.{ℕ}
use Rattle.paper.specs.Layout.{boxed}
use Rattle.paper.specs.Table.{sized}
use Rattle.paper.specs.Sound.{sound}
use Rattle.paper.specs.Index.{true_index, is_true}
use Rattle.laws.proofs.Entries.{same_true, eq-same}

-- a table of fit size that is sound, and its true index
pub record Good (t x : List ℕ) : Type 0 where
  pub sized : sized t ≡ true
  pub sound : sound boxed t ≡ true
  pub index : is_true t x ≡ true

-- only one list is the true index
pub true-index : (t x : List ℕ) → is_true t x ≡ true → x ≡ true_index t
unfolding is_true
true-index t x e = same_true x (true_index t) e

pub is_true_lem : (t : List ℕ) → is_true t (true_index t) ≡ true
unfolding is_true
is_true_lem t = eq-same (true_index t) (true_index t) refl
