-- Sums, and counting by a number that each thing has.
-- Each thing is counted under one number alone, so the counts of all numbers add up; and n numbers that are at most 1 and add up to n are all 1.
use mathlib.Core.Bool.{Bool, true, false, ◌&&◌, cond}
use mathlib.Core.Logic.{◌≢◌, by_cases}
use mathlib.Core.Path.{◌≡◌, refl, sym, ◌∙◌}
use Prim.Native.Nat.{ℕ, zero, suc, ◌+◌, ◌≤◌, ◌<◌}
use native.Mathlib.Omega.{arith}
use native.Mathlib.Numerals.{add-one}
use native.Mathlib.Decide.{ℕ_discrete}
use lib.Dec.{eqb}
use borrow.Author.Tests.{eq-eqb, ne_eqb}
use Rattle.judge_laws.specs.Tally.{sum_below}
use Rattle.paper.specs.Scan.{count_below}

pub sum_more : (f : ℕ → ℕ) (n : ℕ) → sum_below f (n + 1) ≡ sum_below f n + f n
unfolding sum_below
sum_more f n = rw add-one

pub sum-cong : (f g : ℕ → ℕ) (n : ℕ) → ((i : ℕ) → i < n → f i ≡ g i) → sum_below f n ≡ sum_below g n
unfolding sum_below
sum-cong f g zero h = refl
sum-cong f g (suc n) h = rw (sum-cong f g n (λ i l. h i (omega arith)), h n (omega arith))

-- what a number below n adds is in the sum
pub sum_mono : (f : ℕ → ℕ) (n a : ℕ) → a < n → sum_below f a + f a ≤ sum_below f n
unfolding sum_below
sum_mono f zero a l = let z : ⊥ = omega arith in absurd z
sum_mono f (suc n) a l =
    by_cases (ℕ_discrete a n)
    (λ (q : a ≡ n). rw q (omega arith))
    (λ (q : a ≢ n). omega (arith, sum_mono f n a (omega arith)))

-- g is one more at a, and f elsewhere
pub sum-one-more : (f g : ℕ → ℕ) (n a : ℕ) → a < n → g a ≡ f a + 1 → ((i : ℕ) → i < n → i ≢ a → g i ≡ f i) → sum_below g n ≡ sum_below f n + 1
unfolding sum_below
sum-one-more f g zero a l e h = let z : ⊥ = omega arith in absurd z
sum-one-more f g (suc n) a l e h =
    by_cases (ℕ_discrete n a)
    (λ (q : n ≡ a). rw q (omega (arith, e, sum-cong g f a (λ i b. h i (omega arith) (omega arith)))))
    (λ (q : n ≢ a). omega (arith, h n (omega arith) q, sum-one-more f g n a (omega arith) e (λ i b. h i (omega arith))))

pub sum_zeros : (f : ℕ → ℕ) (n : ℕ) → ((i : ℕ) → i < n → f i ≡ 0) → sum_below f n ≡ 0
unfolding sum_below
sum_zeros f zero h = refl
sum_zeros f (suc n) h = omega (arith, h n (omega arith), sum_zeros f n (λ i b. h i (omega arith)))

pub sum_ones : (f : ℕ → ℕ) (n : ℕ) → ((i : ℕ) → i < n → f i ≡ 1) → sum_below f n ≡ n
unfolding sum_below
sum_ones f zero h = refl
sum_ones f (suc n) h = omega (arith, h n (omega arith), sum_ones f n (λ i b. h i (omega arith)))

-- n numbers that are at most 1
pub sum-at-most : (f : ℕ → ℕ) (n : ℕ) → ((i : ℕ) → i < n → f i ≤ 1) → sum_below f n ≤ n
unfolding sum_below
sum-at-most f zero h = omega arith
sum-at-most f (suc n) h = omega (arith, h n (omega arith), sum-at-most f n (λ i b. h i (omega arith)))

-- the pigeonhole: n numbers that are at most 1 and whose sum is n are each 1
pub pigeonhole : (f : ℕ → ℕ) (n : ℕ) → ((i : ℕ) → i < n → f i ≤ 1) → sum_below f n ≡ n → (i : ℕ) → i < n → f i ≡ 1
unfolding sum_below
pigeonhole f zero h e i l = let z : ⊥ = omega arith in absurd z
pigeonhole f (suc n) h e i l =
    let a = sum-at-most f n (λ j b. h j (omega arith)) in
    let t = h n (omega arith) in
    by_cases (ℕ_discrete i n)
    (λ (q : i ≡ n). rw q (omega arith))
    (λ (q : i ≢ n). pigeonhole f n (λ j b. h j (omega arith)) (omega arith) i (omega arith))

-- things that pass are counted number by number
pub count_by : (p : ℕ → Bool) (f : ℕ → ℕ) (m n : ℕ) → ((i : ℕ) → i < n → p i ≡ true → f i < m)
    → sum_below (λ s. count_below (λ i. p i && eqb (f i) s) n) m ≡ count_below p n
unfolding count_below
count_by p f m zero h = sum_zeros (λ s. 0) m (λ i l. refl)
count_by p f m (suc n) h = go (p n) refl (count_by p f m n (λ i l. h i (omega arith)))
  where
    c : ℕ → ℕ
    c s = count_below (λ i. p i && eqb (f i) s) n

    go : (b : Bool) → p n ≡ b → sum_below c m ≡ count_below p n
        → sum_below (λ s. cond (b && eqb (f n) s) (c s + 1) (c s)) m ≡ cond b (count_below p n + 1) (count_below p n)
    go false e r = r
    go true e r =
        sum-one-more c (λ s. cond (eqb (f n) s) (c s + 1) (c s)) m (f n) (h n (omega arith) e) (rw (eq-eqb (f n) (f n) refl))
        (λ i l d. rw (ne_eqb (f n) i (λ x. d (sym x)))) ∙ rw r

pub sum-up : (f : ℕ → ℕ) (m n : ℕ) → m ≤ n → sum_below f m ≤ sum_below f n
unfolding sum_below
sum-up f m zero l = let e : m ≡ 0 = omega arith in rw e (omega arith)
sum-up f m (suc n) l =
    by_cases (ℕ_discrete m (suc n))
    (λ (q : m ≡ suc n). rw q (omega arith))
    (λ (q : m ≢ suc n). omega (arith, sum-up f m n (omega arith)))
