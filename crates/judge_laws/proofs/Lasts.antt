-- The last number below a bound that passes a test.
-- Nothing past it passes, so scans and counts up to the bound are scans and counts up to it.
use mathlib.Core.Bool.{Bool, true, false, cond, true≢false}
use mathlib.Core.Logic.{◌⊎◌, inl, inr, ◌≢◌, by_cases}
use mathlib.Core.Path.{◌≡◌, refl, sym, ◌∙◌}
use Prim.Native.Nat.{ℕ, zero, suc, ◌+◌, ◌-◌, ◌≤◌, ◌<◌}
use native.Mathlib.Omega.{arith}
use native.Mathlib.Numerals.{add-one}
use native.Mathlib.Decide.{ℕ_discrete}
use Rattle.judge_laws.specs.Tally.{last_below}
use Rattle.paper.specs.Scan.{any_below, count_below}
use Rattle.laws.proofs.Scans.{any_here, any_none}
use Rattle.laws.proofs.Tests.{truth}

pub last_more : (p : ℕ → Bool) (n : ℕ) → last_below p (n + 1) ≡ cond (p n) (n + 1) (last_below p n)
unfolding last_below
last_more p n = rw (add-one n)

pub last-most : (p : ℕ → Bool) (n : ℕ) → last_below p n ≤ n
unfolding last_below
last-most p zero = omega arith
last-most p (suc n) = go (p n) (last-most p n)
  where
    go : (b : Bool) → last_below p n ≤ n → cond b (suc n) (last_below p n) ≤ suc n
    go true l = omega arith
    go false l = omega arith

-- past the last there is none
pub last-past : (p : ℕ → Bool) (n j : ℕ) → last_below p n ≤ j → j < n → p j ≡ false
unfolding last_below
last-past p zero j a l = let z : ⊥ = omega arith in absurd z
last-past p (suc n) j a l = go (p n) refl a (λ x y. last-past p n j x y)
  where
    go : (b : Bool) → p n ≡ b → cond b (suc n) (last_below p n) ≤ j → (last_below p n ≤ j → j < n → p j ≡ false) → p j ≡ false
    go true e x r = let z : ⊥ = omega arith in absurd z
    go false e x r = by_cases (ℕ_discrete j n) (λ (q : j ≡ n). rw q e) (λ (q : j ≢ n). r x (omega arith))

-- the last passes
pub last-here : (p : ℕ → Bool) (n : ℕ) → 0 < last_below p n → p (last_below p n - 1) ≡ true
unfolding last_below
last-here p zero l = let z : ⊥ = omega arith in absurd z
last-here p (suc n) l = go (p n) refl l (λ x. last-here p n x)
  where
    go : (b : Bool) → p n ≡ b → 0 < cond b (suc n) (last_below p n) → (0 < last_below p n → p (last_below p n - 1) ≡ true)
        → p (cond b (suc n) (last_below p n) - 1) ≡ true
    go true e x r = let q : suc n - 1 ≡ n = omega arith in rw q e
    go false e x r = r x

-- what no step from c on changes
steady : (g : ℕ → ℕ) (c n : ℕ) → c ≤ n → ((j : ℕ) → c ≤ j → j < n → g (suc j) ≡ g j) → g n ≡ g c
steady g c zero l h = let e : c ≡ 0 = omega arith in rw e
steady g c (suc n) l h =
    by_cases (ℕ_discrete c (suc n))
    (λ (e : c ≡ suc n). rw e)
    (λ (e : c ≢ suc n). h n (omega arith) (omega arith) ∙ steady g c n (omega arith) (λ j a b. h j a (omega arith)))

-- scans that fail from c on
pub last-drop : (q : ℕ → Bool) (c n : ℕ) → c ≤ n → ((j : ℕ) → c ≤ j → j < n → q j ≡ false) → last_below q n ≡ last_below q c
unfolding last_below
last-drop q c n l h = steady (last_below q) c n l (λ j a b. rw (h j a b))

pub count-drop : (q : ℕ → Bool) (c n : ℕ) → c ≤ n → ((j : ℕ) → c ≤ j → j < n → q j ≡ false) → count_below q n ≡ count_below q c
unfolding count_below
count-drop q c n l h = steady (count_below q) c n l (λ j a b. rw (h j a b))

-- as many as below the last
pub count-last : (q : ℕ → Bool) (n : ℕ) → count_below q n ≡ count_below q (last_below q n)
count-last q n = count-drop q (last_below q n) n (last-most q n) (λ j a b. last-past q n j a b)

-- what passes q passes p: the last that passes q is not past the last that passes p
pub last-last : (p q : ℕ → Bool) (n : ℕ) → ((j : ℕ) → q j ≡ true → p j ≡ true) → last_below q n ≡ last_below q (last_below p n)
last-last p q n h = last-drop q (last_below p n) n (last-most p n) (λ j a b. go j (last-past p n j a b) (truth (q j)))
  where
    go : (j : ℕ) → p j ≡ false → (q j ≡ true) ⊎ (q j ≡ false) → q j ≡ false
    go j f (inl e) = absurd (true≢false (sym (h j e) ∙ f))
    go j f (inr e) = e

pub last_none : (q : ℕ → Bool) (n : ℕ) → last_below q n ≡ 0 → any_below q n ≡ false
last_none q n e = any_none q n (λ j l. last-past q n j (omega arith) l)

pub last_some : (q : ℕ → Bool) (n c : ℕ) → last_below q n ≡ c → 0 < c → any_below q n ≡ true
last_some q n c e l = any_here q n (last_below q n - 1) (omega (arith, last-most q n)) (last-here q n (omega arith))
