-- Records laid by a test that only a few numbers pass: the stores go to those of them that pass, in ascending order, each once.
-- Between one number of the list and the next none passes, so that a scan up to the next lists what it listed.
use mathlib.Core.Bool.{Bool, true, false, cond}
use mathlib.Core.List.{List, [], ◌∷◌, ◌++◌, map, append-nil, append_assoc, map-append}
use mathlib.Core.Logic.{◌⊎◌, inl, inr, ◌≢◌, by_cases}
use mathlib.Core.Path.{◌≡◌, refl, sym, ap, ◌∙◌}
use Prim.Native.Nat.{ℕ, zero, suc, ◌≤◌, ◌<◌}
use native.Mathlib.Omega.{arith}
use native.Mathlib.Decide.{ℕ_discrete, dec_lt}
use Rattle.paper.specs.Scan.{join_below, list_below}
use Rattle.paper.specs.Store.{Store, puts, fills}
use Rattle.laws.proofs.Tests.{false-by}

-- the numbers ascend, each once, from lo on
abbrev pub Up : ℕ → List ℕ → Type 0
Up lo [] = Unit {0}
Up lo (a ∷ l) = (lo ≤ a) × Up (suc a) l

-- i is one of them
abbrev pub In : ℕ → List ℕ → Type 0
In i [] = ⊥
In i (a ∷ l) = (i ≡ a) ⊎ In i l

-- the stores to those of them that pass
abbrev pub one : (ℕ → Bool) → (ℕ → List ℕ) → ℕ → List Store
one p b a = cond (p a) (puts a (b a) ∷ []) []

unfoldable pub fills_at : (ℕ → Bool) → (ℕ → List ℕ) → List ℕ → List Store
fills_at p b [] = []
fills_at p b (a ∷ l) = one p b a ++ fills_at p b l

in-least : (l : List ℕ) (lo i : ℕ) → Up lo l → In i l → lo ≤ i
in-least [] lo i u z = absurd z
in-least (a ∷ l) lo i u (inl e) = omega (arith, u.0)
in-least (a ∷ l) lo i u (inr z) = omega (arith, u.0, in-least l (suc a) i u.1 z)

module _ (p : ℕ → Bool) (b : ℕ → List ℕ) where
  fills-next : (n : ℕ) → fills p b (suc n) ≡ fills p b n ++ one p b n
  unfolding fills join_below
  fills-next n = map-append _ (list_below p n) _ ∙ go (p n)
    where
      at : ℕ → Store
      at i = puts i (b i)

      go : (c : Bool) → map at (list_below p n) ++ map at (cond c (n ∷ []) []) ≡ map at (list_below p n) ++ cond c (at n ∷ []) []
      go true = refl
      go false = refl

  -- where none passes from lo on, the scan up to lo is enough
  fills-gap : (n lo : ℕ) → lo ≤ n → ((i : ℕ) → lo ≤ i → i < n → p i ≡ false) → fills p b n ≡ fills p b lo
  fills-gap zero lo l h = let e : lo ≡ 0 = omega arith in rw e
  fills-gap (suc n) lo l h =
      by_cases (ℕ_discrete lo (suc n)) (λ (e : lo ≡ suc n). rw e)
      (λ (d : lo ≢ suc n). fills-next n ∙ rw (h n (omega arith) (omega arith), append-nil) (fills-gap n lo (omega arith) (λ i a c. h i a (omega arith))))

  module _ (n : ℕ) where
    none-past : (l : List ℕ) (lo : ℕ) → ((i : ℕ) → p i ≡ true → i < n) → n ≤ lo → Up lo l → fills_at p b l ≡ []
    unfolding fills_at
    none-past [] lo w m u = refl
    none-past (a ∷ l) lo w m u =
        rw (false-by (p a) (λ e. omega (arith, w a e, u.0))) (none-past l (suc a) w (omega (arith, u.0)) u.1)

    fills-from : (l : List ℕ) (lo : ℕ) → ((i : ℕ) → p i ≡ true → i < n) → lo ≤ n → Up lo l → ((i : ℕ) → lo ≤ i → p i ≡ true → In i l)
        → fills p b n ≡ fills p b lo ++ fills_at p b l
    unfolding fills_at
    fills-from [] lo w m u h = rw append-nil (fills-gap n lo m (λ i a _. false-by (p i) (λ e. h i a e)))
    fills-from (a ∷ l) lo w m u h =
        by_cases (dec_lt a n)
        (λ (k : a < n).
        fills-from l (suc a) w (omega arith) u.1 (λ i z e. later i z (h i (omega (arith, u.0)) e))
        ∙ rw (fills-next a, fills-gap a lo u.0 (λ i z y. false-by (p i) (λ e. let q = in-least (a ∷ l) a i (omega arith, u.1) (h i z e) in omega arith)))
        (append_assoc (fills p b lo) (one p b a) (fills_at p b l)))
        (λ (k : ¬ (a < n)).
        rw (none-past (a ∷ l) a w (omega arith) (omega arith, u.1), append-nil)
        (fills-gap n lo m (λ i z y. false-by (p i) (λ e. let q = in-least (a ∷ l) a i (omega arith, u.1) (h i z e) in omega arith))))
      where
        later : (i : ℕ) → suc a ≤ i → In i (a ∷ l) → In i l
        later i z (inl e) = let y : ⊥ = omega arith in absurd y
        later i z (inr q) = q

-- two tests that pass together, and the same bytes where they do
pub fills-cong : (p q : ℕ → Bool) (b c : ℕ → List ℕ) (n : ℕ) → ((i : ℕ) → i < n → p i ≡ q i) → ((i : ℕ) → i < n → q i ≡ true → b i ≡ c i)
    → fills p b n ≡ fills q c n
unfolding fills join_below
fills-cong p q b c zero h k = refl
fills-cong p q b c (suc n) h k =
    fills-next p b n ∙ rw (fills-cong p q b c n (λ i l. h i (omega arith)) (λ i l. k i (omega arith)), h n (omega arith))
    (ap (λ (x : List Store). fills q c n ++ x) (go (q n) refl)) ∙ sym (fills-next q c n)
  where
    go : (a : Bool) → q n ≡ a → cond a (puts n (b n) ∷ []) [] ≡ cond a (puts n (c n) ∷ []) []
    go true e = rw (k n (omega arith) e)
    go false e = refl

-- what passes is below n and in an ascending list: the list tells
pub fills-few : (p : ℕ → Bool) (b : ℕ → List ℕ) (n : ℕ) (l : List ℕ) → ((i : ℕ) → p i ≡ true → i < n) → Up 0 l → ((i : ℕ) → p i ≡ true → In i l)
    → fills p b n ≡ fills_at p b l
unfolding fills join_below
fills-few p b n l w u h = fills-from p b n l 0 w (omega arith) u (λ i _. h i)
