-- Laws of counting, by induction on the bound: one more number adds one where it passes and else nothing.
-- Two tests that differ at one number differ by one in their counts.
use mathlib.Core.Bool.{Bool, true, false, ◌||◌, cond}
use mathlib.Core.Logic.{◌≢◌, by_cases}
use mathlib.Core.Path.{◌≡◌, refl, sym, ap, ◌∙◌}
use Prim.Native.Nat.{ℕ, zero, suc, ◌+◌, ◌≤◌, ◌<◌}
use native.Mathlib.Omega.{arith}
use native.Mathlib.Numerals.{add-one}
use native.Mathlib.Decide.{ℕ_discrete}
use lib.Dec.{eqb}
use borrow.Author.Tests.{eqb-true, eq-eqb, ne_eqb}
use Rattle.paper.specs.Scan.{any_below, count_below}
use Rattle.laws.proofs.Tests.{not-both, true-by}
use Rattle.laws.proofs.Scans.{any_false, any_none}

pub count-cong : (p q : ℕ → Bool) (n : ℕ) → ((i : ℕ) → i < n → p i ≡ q i) → count_below p n ≡ count_below q n
unfolding count_below
count-cong p q zero h = refl
count-cong p q (suc n) h = rw (count-cong p q n (λ i l. h i (omega arith)), h n (omega arith))

pub count-more : (p : ℕ → Bool) (n : ℕ) → count_below p (n + 1) ≡ cond (p n) (count_below p n + 1) (count_below p n)
unfolding count_below
count-more p n = rw (add-one n)

pub count_none : (p : ℕ → Bool) (n : ℕ) → ((i : ℕ) → i < n → p i ≡ false) → count_below p n ≡ 0
unfolding count_below
count_none p zero h = refl
count_none p (suc n) h = rw (h n (omega arith)) (count_none p n (λ i l. h i (omega arith)))

-- q passes at a, where p does not, and agrees with p elsewhere: one more
pub count-more-at : (p q : ℕ → Bool) (n a : ℕ) → a < n → p a ≡ false → q a ≡ true → ((i : ℕ) → i < n → i ≢ a → p i ≡ q i)
    → count_below q n ≡ count_below p n + 1
unfolding count_below
count-more-at p q zero a l e f h = let z : ⊥ = omega arith in absurd z
count-more-at p q (suc n) a l e f h =
    by_cases (ℕ_discrete n a)
    (λ (x : n ≡ a). rw (x, e, f) (ap (λ (c : ℕ). c + 1) (count-cong q p a (λ i b. sym (h i (omega arith) (omega arith))))))
    (λ (x : n ≢ a). go (q n) (count-more-at p q n a (omega arith) e f (λ i b. h i (omega arith))) (h n (omega arith) x))
  where
    go : (b : Bool) → count_below q n ≡ count_below p n + 1 → p n ≡ b
        → cond b (count_below q n + 1) (count_below q n) ≡ cond (p n) (count_below p n + 1) (count_below p n) + 1
    go true r g = rw g (omega arith)
    go false r g = rw g (omega arith)

-- passes at a and nowhere else: once
pub count-once : (p : ℕ → Bool) (n a : ℕ) → a < n → p a ≡ true → ((i : ℕ) → i < n → i ≢ a → p i ≡ false) → count_below p n ≡ 1
count-once p n a l e h =
    count-more-at (λ _. false) p n a l refl e (λ i b d. sym (h i b d)) ∙ rw (count_none (λ _. false) n (λ i b. refl))

raised : (b : Bool) (x y : ℕ) → x ≤ y → x ≤ cond b (y + 1) y
raised true x y l = omega arith
raised false x y l = l

-- a longer scan counts no less
pub count-up : (p : ℕ → Bool) (m n : ℕ) → m ≤ n → count_below p m ≤ count_below p n
unfolding count_below
count-up p m zero l = let e : m ≡ 0 = omega arith in rw e (omega arith)
count-up p m (suc n) l =
    by_cases (ℕ_discrete m (suc n))
    (λ (q : m ≡ suc n). rw q (omega arith))
    (λ (q : m ≢ suc n). raised (p n) _ _ (count-up p m n (omega arith)))

bounded : (b : Bool) (x n : ℕ) → x ≤ n → cond b (x + 1) x ≤ suc n
bounded true x n l = omega arith
bounded false x n l = omega arith

pub count_most : (p : ℕ → Bool) (n : ℕ) → count_below p n ≤ n
unfolding count_below
count_most p zero = omega arith
count_most p (suc n) = bounded (p n) _ n (count_most p n)

-- a test that passes wherever another does counts no less
pub count-mono : (p q : ℕ → Bool) (n : ℕ) → ((i : ℕ) → i < n → p i ≡ true → q i ≡ true) → count_below p n ≤ count_below q n
unfolding count_below
count-mono p q zero h = omega arith
count-mono p q (suc n) h = go (p n) refl (count-mono p q n (λ i l. h i (omega arith)))
  where
    go : (b : Bool) → p n ≡ b → count_below p n ≤ count_below q n
        → cond b (count_below p n + 1) (count_below p n) ≤ cond (q n) (count_below q n + 1) (count_below q n)
    go true e r = rw (h n (omega arith) e) (omega arith)
    go false e r = raised (q n) _ _ r

-- .. and, where it passes once more, more
pub count_less : (p q : ℕ → Bool) (n a : ℕ) → a < n → p a ≡ false → q a ≡ true → ((i : ℕ) → i < n → p i ≡ true → q i ≡ true)
    → count_below p n < count_below q n
count_less p q n a l e f h =
    let others : ℕ → Bool = λ k. cond (eqb k a) false (q k) in
    let more : count_below q n ≡ count_below others n + 1 =
    count-more-at others q n a l (rw (eq-eqb a a refl)) f (λ k b d. rw (ne_eqb k a d)) in
    let less : count_below p n ≤ count_below others n =
    count-mono p others n (λ i b y. rw (ne_eqb i a (λ (z : i ≡ a). not-both y (rw z e))) (h i b y)) in
    omega arith

-- what is counted once is there, and there is no second
pub count-least : (p : ℕ → Bool) (n i : ℕ) → i < n → p i ≡ true → 1 ≤ count_below p n
count-least p n i l e =
    rw (← (count-once (λ j. eqb j i) n i l (eq-eqb i i refl) (λ j m d. ne_eqb j i d)))
    (count-mono (λ j. eqb j i) p n (λ j m q. rw (eqb-true j i q) e))

pub once-there : (p : ℕ → Bool) (n : ℕ) → count_below p n ≡ 1 → any_below p n ≡ true
once-there p n e =
    true-by (any_below p n) (λ f.
    let z : count_below p n ≡ 0 = count_none p n (λ i l. any_false p n i l f) in
    omega arith)

pub once-only : (p : ℕ → Bool) (n i j : ℕ) → count_below p n ≡ 1 → i < n → j < n → p i ≡ true → p j ≡ true → i ≡ j
once-only p n i j e l m x y =
    by_cases (ℕ_discrete i j) (λ (q : i ≡ j). q)
    (λ (q : i ≢ j).
    let others : ℕ → Bool = λ k. cond (eqb k i) false (p k) in
    let a : count_below p n ≡ count_below others n + 1 =
    count-more-at others p n i l (rw (eq-eqb i i refl)) x (λ k b d. rw (ne_eqb k i d)) in
    let b : 1 ≤ count_below others n = count-least others n j m (rw (ne_eqb j i (λ z. q (sym z))) y) in
    let z : ⊥ = omega arith in
    absurd z)

-- two tests that never both pass: the counts add up
pub count-either : (p q : ℕ → Bool) (n : ℕ) → ((i : ℕ) → i < n → p i ≡ true → q i ≡ false)
    → count_below (λ i. p i || q i) n ≡ count_below p n + count_below q n
unfolding count_below
count-either p q zero h = refl
count-either p q (suc n) h = go (p n) refl (q n) refl (count-either p q n (λ i l. h i (omega arith)))
  where
    go : (a : Bool) → p n ≡ a → (b : Bool) → q n ≡ b → count_below (λ i. p i || q i) n ≡ count_below p n + count_below q n
        → cond (a || b) (count_below (λ i. p i || q i) n + 1) (count_below (λ i. p i || q i) n)
        ≡ cond a (count_below p n + 1) (count_below p n) + cond b (count_below q n + 1) (count_below q n)
    go true e b f r = rw (sym f ∙ h n (omega arith) e) (omega arith)
    go false e true f r = omega arith
    go false e false f r = r

-- n places that differ are n
pub count-places : (f : ℕ → ℕ) (n m : ℕ) → ((p : ℕ) → p < n → f p < m) → ((p q : ℕ) → p < n → q < n → f p ≡ f q → p ≡ q)
    → count_below (λ i. any_below (λ p. eqb i (f p)) n) m ≡ n
unfolding any_below
count-places f zero m w d = count_none _ m (λ i l. refl)
count-places f (suc n) m w d =
    count-more-at (λ i. any_below (λ p. eqb i (f p)) n) (λ i. any_below (λ p. eqb i (f p)) (suc n)) m (f n) (w n (omega arith))
    (any_none _ n (λ p l. ne_eqb _ _ (λ q. let z : n ≡ p = d n p (omega arith) (omega arith) q in omega arith))) (rw (eq-eqb (f n) (f n) refl))
    (λ i l q. rw (ne_eqb i (f n) q))
    ∙ rw (count-places f n m (λ p l. w p (omega arith)) (λ p q a b. d p q (omega arith) (omega arith))) (add-one n)
