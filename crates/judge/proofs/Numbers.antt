-- The judge's number is 0, 1 or 2: it is that of two tests.
-- So one that is no number of a refusal is 0.
use mathlib.Core.Bool.{Bool, true, false, cond}
use mathlib.Core.List.{List}
use mathlib.Core.Path.{◌≡◌}
use Prim.Native.Nat.{ℕ, ◌≤◌, ◌<◌}
use native.Mathlib.Omega.{arith}
use Rattle.paper.specs.Layout.{boxed}
use Rattle.paper.specs.Table.{sized}
use Rattle.paper.specs.Sound.{sound}
use Rattle.judge.specs.Judged.{judged}

pub judged-most : (t : List ℕ) (n : ℕ) → n ≡ judged t → n ≤ 2
unfolding judged
judged-most t n e = go (sized t) (sound boxed t) e
  where
    go : (a b : Bool) → n ≡ cond a (cond b 0 2) 1 → n ≤ 2
    go true true q = omega arith
    go true false q = omega arith
    go false b q = omega arith

pub judged-none : (t : List ℕ) (n : ℕ) → n ≡ judged t → (1 ≤ n → 28 < n) → n ≡ 0
judged-none t n e d = grind (arith, d, judged-most t n e)
