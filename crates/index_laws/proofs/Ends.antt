-- Where the entries end: halving leaves before the low place none that holds 65,535, and from the past place on nothing else. So in a list of numbers
-- below 65,535 and padding after them it ends at the first place of the padding; and more looks than places change nothing.
use mathlib.Core.List.{List, [], ◌∷◌, ◌++◌}
use mathlib.Core.Logic.{inl, inr, ◌≢◌, by_cases}
use mathlib.Core.Path.{◌≡◌, refl, sym, ap, ◌∙◌}
use Prim.Native.Nat.{ℕ, zero, suc, ◌+◌, ◌-◌, ◌≤◌, ◌<◌}
use native.Mathlib.Omega.{arith}
use native.Mathlib.Decide.{dec_lt, ℕ_discrete}
use lib.ListN.{length, get_or, take, replicate, length-append, length-replicate, get_or-replicate, get_or-append}
use lib.Seq.{get_or-append-add, length-take-le}
use borrow.Author.Tests.{eq-eqb, ne_eqb, lt-ltb, le-ltb}
use Rattle.paper.specs.Index.{middle, ending, used}
use Rattle.index_laws.proofs.Orders.{In}

-- one look: nothing is left to look at, the middle is padding, or it is not
module _ (x : List ℕ) (f low past : ℕ) where
  ends-here : past ≤ low → ending x (suc f) low past ≡ low
  unfolding ending
  ends-here h = rw (le-ltb low past h)

  ends-back : low < past → get_or x (middle low past) 0 ≡ 65535 → ending x (suc f) low past ≡ ending x f low (middle low past)
  unfolding ending
  ends-back h q = rw (lt-ltb low past h, eq-eqb (get_or x (middle low past) 0) 65535 q)

  ends_on : low < past → get_or x (middle low past) 0 ≢ 65535 → ending x (suc f) low past ≡ ending x f (middle low past + 1) past
  unfolding ending
  ends_on h q = rw (lt-ltb low past h, ne_eqb (get_or x (middle low past) 0) 65535 q)

-- a property of an end by its looks, with as many looks as there are places or more
module _ (x : List ℕ) where
  -- the end goes by what stands before it and after it
  ends_at : (m f low past : ℕ) → low ≤ m → m ≤ past → past - low ≤ f → ((i : ℕ) → i < m → get_or x i 0 ≢ 65535)
      → ((i : ℕ) → m ≤ i → i < past → get_or x i 0 ≡ 65535) → ending x f low past ≡ m
  unfolding ending
  ends_at m zero low past a b c g h = omega arith
  ends_at m (suc f) low past a b c g h =
      by_cases (dec_lt low past)
      (λ (l : low < past). by_cases (dec_lt (middle low past) m)
      (λ (p : middle low past < m). ends_on x f low past l (g (middle low past) p) ∙ ends_at m f (middle low past + 1) past (omega arith) b (omega arith) g h)
      (λ (p : ¬ (middle low past < m)). ends-back x f low past l (h (middle low past) (omega arith) (omega arith))
      ∙ ends_at m f low (middle low past) a (omega arith) (omega arith) g (λ i y z. h i y (omega arith))))
      (λ (l : ¬ (low < past)). ends-here x f low past (omega arith) ∙ omega arith)

  -- more looks change nothing
  ends_same : (f g low past : ℕ) → past - low ≤ f → past - low ≤ g → ending x f low past ≡ ending x g low past
  unfolding ending
  ends_same zero zero low past a b = refl
  ends_same zero (suc g) low past a b = sym (ends-here x g low past (omega arith))
  ends_same (suc f) zero low past a b = ends-here x f low past (omega arith)
  ends_same (suc f) (suc g) low past a b =
      by_cases (dec_lt low past)
      (λ (l : low < past). by_cases (ℕ_discrete (get_or x (middle low past) 0) 65535)
      (λ (q : get_or x (middle low past) 0 ≡ 65535). ends-back x f low past l q
      ∙ ends_same f g low (middle low past) (omega arith) (omega arith) ∙ sym (ends-back x g low past l q))
      (λ (q : get_or x (middle low past) 0 ≢ 65535). ends_on x f low past l q
      ∙ ends_same f g (middle low past + 1) past (omega arith) (omega arith) ∙ sym (ends_on x g low past l q)))
      (λ (l : ¬ (low < past)). ends-here x f low past (omega arith) ∙ sym (ends-here x g low past (omega arith)))

  ends-most : (f low past : ℕ) → low ≤ past → ending x f low past ≤ past
  unfolding ending
  ends-most zero low past a = a
  ends-most (suc f) low past a =
      by_cases (dec_lt low past)
      (λ (l : low < past). by_cases (ℕ_discrete (get_or x (middle low past) 0) 65535)
      (λ (q : get_or x (middle low past) 0 ≡ 65535). omega (arith, ends-back x f low past l q, ends-most f low (middle low past) (omega arith)))
      (λ (q : get_or x (middle low past) 0 ≢ 65535). omega (arith, ends_on x f low past l q, ends-most f (middle low past + 1) past (omega arith))))
      (λ (l : ¬ (low < past)). omega (arith, ends-here x f low past (omega arith)))

pub used-most : (x : List ℕ) → used x ≤ length x
unfolding used
used-most x = ends-most x (length x) 0 (length x) (omega arith)

pub used-length : (x : List ℕ) → length (take (used x) x) ≡ used x
used-length x = length-take-le (used x) x (used-most x)

-- numbers below 65,535, and padding after them
at_in : (l : List ℕ) (i : ℕ) → i < length l → In (get_or l i 0) l
at_in [] i h = let z : ⊥ = omega arith in absurd z
at_in (a ∷ l) zero h = inl refl
at_in (a ∷ l) (suc i) h = inr (at_in l i (omega arith))

pub used-front : (l : List ℕ) (n : ℕ) → ((e : ℕ) → In e l → e < 65535) → used (l ++ replicate n 65535) ≡ length l
unfolding used
used-front l n h =
    rw (length-append l (replicate n 65535), length-replicate {A = ℕ} n 65535)
    (ends_at (l ++ replicate n 65535) (length l) (length l + n) 0 (length l + n) (omega arith) (omega arith) (omega arith) before after)
  where
    before : (i : ℕ) → i < length l → get_or (l ++ replicate n 65535) i 0 ≢ 65535
    before i d q = let z : ⊥ = omega (arith, h (get_or l i 0) (at_in l i d), sym (get_or-append l (replicate n 65535) 0 i d) ∙ q) in absurd z

    after : (i : ℕ) → length l ≤ i → i < length l + n → get_or (l ++ replicate n 65535) i 0 ≡ 65535
    after i a b =
        let e : i ≡ length l + (i - length l) = omega arith in
        ap (λ j. get_or (l ++ replicate n 65535) j 0) e ∙ get_or-append-add l (replicate n 65535) (i - length l) 0
        ∙ get_or-replicate n (i - length l) 65535 0 (omega arith)

-- ---- the code's turns, with a look for each place that is left

pub used-is : (x : List ℕ) → used x ≡ ending x (length x) 0 (length x)
unfolding used
used-is x = refl

module _ (x : List ℕ) (low past : ℕ) where
  pub end_back : low < past → get_or x (middle low past) 0 ≡ 65535 → ending x (past - low) low past ≡ ending x (middle low past - low) low (middle low past)
  end_back h q =
      ends_same x (past - low) (suc (past - low)) low past (omega arith) (omega arith) ∙ ends-back x (past - low) low past h q
      ∙ ends_same x (past - low) (middle low past - low) low (middle low past) (omega arith) (omega arith)

  pub end_on : low < past → get_or x (middle low past) 0 ≢ 65535
      → ending x (past - low) low past ≡ ending x (past - (middle low past + 1)) (middle low past + 1) past
  end_on h q =
      ends_same x (past - low) (suc (past - low)) low past (omega arith) (omega arith) ∙ ends_on x (past - low) low past h q
      ∙ ends_same x (past - low) (past - (middle low past + 1)) (middle low past + 1) past (omega arith) (omega arith)

  pub end-here : past ≤ low → ending x (past - low) low past ≡ low
  end-here h = ends_same x (past - low) (suc (past - low)) low past (omega arith) (omega arith) ∙ ends-here x (past - low) low past h
