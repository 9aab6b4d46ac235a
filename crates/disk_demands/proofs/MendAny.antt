-- Mending writes in one phase. Any of its stores, in any order, leave a table between the one mended and its end, and so it ends as the whole.
use mathlib.Core.Bool.{true}
use mathlib.Core.List.{List}
use mathlib.Core.Path.{◌≡◌}
use Prim.Native.Nat.{ℕ, ◌≤◌}
use native.Mathlib.Omega.{arith}
use lib.ListN.{length}
use borrow.Author.Tests.{eqb-true}
use Rattle.paper.specs.Layout.{boxed}
use Rattle.paper.specs.Table.{sized}
use Rattle.paper.specs.Mend.{mend_stores, mended}
use Rattle.paper.specs.Answer.{mending}
use Rattle.laws.proofs.Tests.{and_left}
use Rattle.demands.proofs.MendAnswered.{MendCame, unsized, unsound, whole, cut_off, mend-came}
use Rattle.demands.proofs.Mending.{mended_whole, mend-whole, mend-sound}
use Rattle.demands.proofs.Mending.Again.{again-any}
use Rattle.disk.specs.Disk.{Agrees}

-- it ends where the mend ended, and mending answers 0
pub record EndsAs (x f : List ℕ) : Type 0 where
  pub end : mended x ≡ f
  pub answers : (j : ℕ) → length (mend_stores x) ≤ j → mending boxed x j ≡ mended_whole x

pub mend-any : (s x : List ℕ) (k : ℕ) → (mending boxed s k).answer.number ≡ 0 → Agrees s (mending boxed s k).table x → EndsAs x (mending boxed s k).table
mend-any s x k z a = go (mend-came s k)
  where
    by : mended x ≡ (mending boxed s k).table → EndsAs x (mending boxed s k).table
    by e = let f = mend-sound s k z in record { end = e; answers = λ j. mend-whole x j (rw e f.0) (rw e f.1) }

    at : sized s ≡ true → (mending boxed s k).table ≡ mended s → EndsAs x (mending boxed s k).table
    at b e = by (rw e (again-any s x (eqb-true _ _ (and_left _ _ b)) a.long (λ i l. rw e at (a.each i l))))

    go : MendCame s k (mending boxed s k) → EndsAs x (mending boxed s k).table
    go (unsized b e) = let n : ⊥ = omega (arith, rw e at z) in absurd n
    go (unsound b c e) = let n : ⊥ = omega (arith, rw e at z) in absurd n
    go (whole b c l e) = at b (rw e)
    go (cut_off b c l e) = let n : ⊥ = omega (arith, rw e at z) in absurd n
