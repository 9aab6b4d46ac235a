-- The halving search, by its cases: each look leaves at most half of the places, so that fewer than 2 ^ f take at most f looks.
-- What it met has the rank; where it met none over a list that ascends, the ranks before the place are less and the others more.
use mathlib.Core.Bool.{Bool, true, false, cond, true≢false}
use mathlib.Core.List.{List, [], ◌∷◌}
use mathlib.Core.Logic.{inl, inr, ◌≢◌, by_cases}
use mathlib.Core.Path.{◌≡◌, refl, sym}
use Prim.Native.Nat.{ℕ, zero, suc, ◌+◌, ◌-◌, ◌*◌, ◌^◌, ◌≤◌, ◌<◌}
use native.Mathlib.Omega.{arith}
use native.Mathlib.Nat.{pow-zero, pow-suc}
use native.Mathlib.Decide.{ℕ_discrete}
use lib.Dec.{ltb, eqb}
use lib.ListN.{length, get_or}
use borrow.Author.Tests.{ltb-true, ltb-false, le-ltb, eqb-true, eqb-false}
use Rattle.paper.specs.Index.{Sought, middle, halving, sought}
use Rattle.index_laws.proofs.Orders.{In, Up, up_in}

module _ (k : ℕ → ℕ) (x : List ℕ) (y : ℕ) where
  abbrev at : ℕ → ℕ
  at q = k (get_or x q 0)

  abbrev none : ℕ → ℕ → Sought
  none low n = record { found = false; place = low; count = n }

  -- the search by cases
  cases : (P : Sought → Type 0) (f low past n : ℕ) → (past ≤ low → P (none low n))
      → (low < past → at (middle low past) ≡ y → P (record { found = true; place = middle low past; count = n + 1 }))
      → (low < past → at (middle low past) < y → P (halving k x y f (middle low past + 1) past (n + 1)))
      → (low < past → y < at (middle low past) → P (halving k x y f low (middle low past) (n + 1)))
      → P (halving k x y (suc f) low past n)
  unfolding halving
  cases P f low past n out here on back = go (ltb low past) refl (eqb (at (middle low past)) y) refl (ltb (at (middle low past)) y) refl
    where
      go : (a : Bool) → ltb low past ≡ a → (b : Bool) → eqb (at (middle low past)) y ≡ b → (c : Bool) → ltb (at (middle low past)) y ≡ c
          → P (cond a (cond b (record { found = true; place = middle low past; count = n + 1 })
          (cond c (halving k x y f (middle low past + 1) past (n + 1)) (halving k x y f low (middle low past) (n + 1)))) (none low n))
      go false a b q c r = out (ltb-false low past a)
      go true a true q c r = here (ltb-true low past a) (eqb-true (at (middle low past)) y q)
      go true a false q true r = on (ltb-true low past a) (ltb-true (at (middle low past)) y r)
      go true a false q false r = back (ltb-true low past a)
          (let z : at (middle low past) ≢ y = eqb-false (at (middle low past)) y q in omega (arith, ltb-false (at (middle low past)) y r))

  -- ---- how many

  pub count-below : (F f low past n : ℕ) → past - low < 2 ^ f → (halving k x y F low past n).count ≤ n + f
  unfolding halving
  count-below zero f low past n l = omega arith
  count-below (suc F) zero low past n l = rw (le-ltb low past (omega (arith, rw (pow-zero 2) at l))) (omega arith)
  count-below (suc F) (suc f) low past n l =
      let m : past - low < 2 ^ f * 2 = rw (pow-suc 2 f) at l in
      cases (λ (s : Sought). s.count ≤ n + suc f) F low past n
      (λ h. omega arith)
      (λ h q. omega arith)
      (λ h q. omega (arith, count-below F f (middle low past + 1) past (n + 1) (omega arith)))
      (λ h q. omega (arith, count-below F f low (middle low past) (n + 1) (omega arith)))

  pub sought-most : (f : ℕ) → length x < 2 ^ f → (sought k x y).count ≤ f
  sought-most f h = omega (arith, count-below (length x) f 0 (length x) 0 (omega arith))

  -- "at most 12"
  pub at-most-twelve : length x ≤ 2048 → (sought k x y).count ≤ 12
  at-most-twelve h = sought-most 12 (omega arith)

  pub at-most-eleven : length x ≤ 2047 → (sought k x y).count ≤ 11
  at-most-eleven h = sought-most 11 (omega arith)

  -- ---- what is found

  abbrev Met : ℕ → Sought → Type 0
  Met past s = (s.place ≤ past) × (s.found ≡ true → (s.place < past) × (at s.place ≡ y))

  met-up : (a b : ℕ) (s : Sought) → a ≤ b → Met a s → Met b s
  met-up a b s h m = (omega (arith, m.0), λ (q : s.found ≡ true). let r = m.1 q in (omega (arith, r.0), r.1))

  met-none : (past low n : ℕ) → low ≤ past → Met past (none low n)
  met-none past low n h = (h, λ (q : false ≡ true). absurd (true≢false (sym q)))

  met : (f low past n : ℕ) → low ≤ past → Met past (halving k x y f low past n)
  unfolding halving
  met zero low past n h = met-none past low n h
  met (suc f) low past n h =
      cases (Met past) f low past n
      (λ _. met-none past low n h)
      (λ l q. (omega arith, λ _. (omega arith, q)))
      (λ l q. met f (middle low past + 1) past (n + 1) (omega arith))
      (λ l q. met-up (middle low past) past (halving k x y f low (middle low past) (n + 1)) (omega arith) (met f low (middle low past) (n + 1) (omega arith)))

  pub sought-met : Met (length x) (sought k x y)
  sought-met = met (length x) 0 (length x) 0 (omega arith)

  -- ---- where nothing is found

  abbrev Split : ℕ → Sought → Type 0
  Split m s = s.found ≡ false → ((q : ℕ) → q < s.place → at q < y) × ((q : ℕ) → s.place ≤ q → q < m → y < at q)

  module _ (m : ℕ) (order : (i j : ℕ) → i < j → j < m → at i < at j) where
    split : (f low past n : ℕ) → past - low ≤ f → low ≤ past → past ≤ m → ((q : ℕ) → q < low → at q < y) → ((q : ℕ) → past ≤ q → q < m → y < at q)
        → Split m (halving k x y f low past n)
    unfolding halving
    split zero low past n e l b less more = λ _. (less, λ q c d. more q (omega arith) d)
    split (suc f) low past n e l b less more =
        cases (Split m) f low past n
        (λ h z. (less, λ q c d. more q (omega arith) d))
        (λ h q (z : true ≡ false). absurd (true≢false z))
        (λ h q. split f (middle low past + 1) past (n + 1) (omega arith) (omega arith) b
        (λ i c. by_cases (ℕ_discrete i (middle low past))
        (λ (w : i ≡ middle low past). rw w q)
        (λ (w : i ≢ middle low past). omega (arith, order i (middle low past) (omega arith) (omega arith))))
        more)
        (λ h q. split f low (middle low past) (n + 1) (omega arith) (omega arith) (omega arith) less
        (λ i c d. by_cases (ℕ_discrete i (middle low past))
        (λ (w : i ≡ middle low past). rw w q)
        (λ (w : i ≢ middle low past). omega (arith, order (middle low past) i (omega arith) d))))

  pub sought-split : ((i j : ℕ) → i < j → j < length x → at i < at j) → Split (length x) (sought k x y)
  sought-split order =
      split (length x) order (length x) 0 (length x) 0 (omega arith) (omega arith) (omega arith)
      (λ q c. let z : ⊥ = omega arith in absurd z) (λ q c d. let z : ⊥ = omega arith in absurd z)

-- ---- places of a list that ascends

pub place_in : (l : List ℕ) (q : ℕ) → q < length l → In (get_or l q 0) l
place_in [] q h = let z : ⊥ = omega arith in absurd z
place_in (a ∷ l) zero h = inl refl
place_in (a ∷ l) (suc q) h = inr (place_in l q (omega arith))

pub in_place_lem : (l : List ℕ) (e : ℕ) → In e l → (q : ℕ) × (q < length l) × (get_or l q 0 ≡ e)
in_place_lem [] e i = absurd i
in_place_lem (a ∷ l) e (inl i) = (0, omega arith, sym i)
in_place_lem (a ∷ l) e (inr i) = let r = in_place_lem l e i in (suc r.0, omega (arith, r.1), r.2)

pub up-places : (k : ℕ → ℕ) (b : ℕ) (l : List ℕ) → Up k b l → (i j : ℕ) → i < j → j < length l → k (get_or l i 0) < k (get_or l j 0)
up-places k b [] u i j c h = let z : ⊥ = omega arith in absurd z
up-places k b (a ∷ l) u i zero c h = let z : ⊥ = omega arith in absurd z
up-places k b (a ∷ l) u zero (suc j) c h = omega (arith, up_in k (suc (k a)) l (get_or l j 0) u.1 (place_in l j (omega arith)))
up-places k b (a ∷ l) u (suc i) (suc j) c h = up-places k (suc (k a)) l u.1 i j (omega arith) (omega arith)
