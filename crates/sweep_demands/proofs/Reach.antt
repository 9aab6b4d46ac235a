-- What is reached, by chains of any length. A step of reach that adds no heading adds none ever after, and each that adds one takes one of the
-- table's records, so as many steps as there are records are all; and what a lesser table reaches the table reaches.
use mathlib.Core.Bool.{Bool, true, false, ◌&&◌, ◌||◌, not}
use mathlib.Core.List.{List}
use mathlib.Core.Logic.{◌⊎◌, inl, inr}
use mathlib.Core.Path.{◌≡◌, refl, sym, ◌∙◌}
use Prim.Native.Nat.{ℕ, zero, suc, ◌≤◌, ◌<◌}
use native.Mathlib.Omega.{arith}
use borrow.Author.Tests.{eqb-true, not-true}
use Rattle.paper.specs.Scan.{any_below, count_below}
use Rattle.paper.specs.Record.{byte, is_kind, holder_of, names}
use Rattle.paper.specs.Table.{rooms, rec}
use Rattle.paper.specs.Sound.{is_base}
use Rattle.paper.specs.Sweep.{reached_in, reached}
use Rattle.laws.proofs.Tests.{truth, not-both, and_left, and_right, and_both, true-by}
use Rattle.laws.proofs.Scans.{any-true, any_false, any_here}
use Rattle.laws.proofs.Counts.{count_most, count_less}
use Rattle.laws.proofs.Entries.{names-kind}
use Rattle.laws.proofs.Lay.{Whole, kind-blank, within}
use Rattle.demands.proofs.Mending.Part.{Below, free, stays, Less}
use Rattle.demands.proofs.Mending.Counts.{alike-kind, alike_same}
use Rattle.demands.proofs.Mending.Less.{less-refl, below, up-heading}

-- entry r names h, and is a base file's or its directory passes
abbrev pub Leads : List ℕ → (ℕ → Bool) → ℕ → ℕ → Bool
Leads t q h i = names h (rec t i) && (is_base (rec t i) || q (holder_of (rec t i)))

-- one step more
abbrev next : List ℕ → (ℕ → Bool) → ℕ → Bool
next t q h = is_kind 1 (rec t h) && any_below (Leads t q h) (rooms t)

-- "or": the second may be weaker
pub or-up : (a b c : Bool) → (b ≡ true → c ≡ true) → (a || b) ≡ true → (a || c) ≡ true
or-up true b c h e = refl
or-up false b c h e = h e

-- an entry of a lesser table is an entry of the table
pub entry-same : (s a : List ℕ) → Whole s → Less s a → (i : ℕ) → byte (rec a i) 0 ≡ 2 → rec a i ≡ rec s i
entry-same s a w d i k = go (below s a w d i)
  where
    go : Below (rec s i) (rec a i) → rec a i ≡ rec s i
    go (free e) = let z : ⊥ = omega (arith, kind-blank (rec a i) e) in absurd z
    go (stays x) = alike_same (rec s i) (rec a i) x (let q : byte (rec s i) 0 ≡ 2 = sym (alike-kind (rec s i) (rec a i) x) ∙ k in rw q)

-- ---- a step goes by more

module _ (s a : List ℕ) (w : Whole s) (d : Less s a) (q p : ℕ → Bool) (f : (h : ℕ) → q h ≡ true → p h ≡ true) where
  next_up : (h : ℕ) → next a q h ≡ true → next s p h ≡ true
  next_up h e =
      let y : any_below (Leads a q h) (rooms a) ≡ true = and_right (is_kind 1 (rec a h)) _ e in
      let x = any-true (Leads a q h) (rooms s) (rw d.long at y) in
      and_both (is_kind 1 (rec s h)) _ (up-heading (rec s h) (rec a h) (below s a w d h) (and_left (is_kind 1 (rec a h)) _ e))
      (any_here (Leads s p h) (rooms s) x.0 x.1 (at x.0 x.2))
    where
      at : (i : ℕ) → Leads a q h i ≡ true → Leads s p h i ≡ true
      at i y =
          let n : names h (rec a i) ≡ true = and_left (names h (rec a i)) _ y in
          let o : (is_base (rec a i) || q (holder_of (rec a i))) ≡ true = and_right (names h (rec a i)) _ y in
          let r : rec a i ≡ rec s i = entry-same s a w d i (names-kind h (rec a i) n) in
          and_both (names h (rec s i)) _ (rw r at n) (or-up (is_base (rec s i)) (q (holder_of (rec s i))) _ (f (holder_of (rec s i))) (rw r at o))

-- what a lesser table reaches
pub in-mono : (s a : List ℕ) → Whole s → Less s a → (n h : ℕ) → reached_in n a h ≡ true → reached_in n s h ≡ true
unfolding reached_in
in-mono s a w d zero h e = e
in-mono s a w d (suc n) h e = next_up s a w d (reached_in n a) (reached_in n s) (in-mono s a w d n) h e

pub reached-mono : (s a : List ℕ) → Whole s → Less s a → (h : ℕ) → reached a h ≡ true → reached s h ≡ true
unfolding reached
reached-mono s a w d h e = in-mono s a w d (rooms s) h (rw d.long at e)

module _ (t : List ℕ) (w : Whole t) where
  step-up : (q p : ℕ → Bool) → ((h : ℕ) → q h ≡ true → p h ≡ true) → (h : ℕ) → next t q h ≡ true → next t p h ≡ true
  step-up q p f = next_up t t w (less-refl t) q p f

  -- a longer chain may be a shorter one
  grows : (n h : ℕ) → reached_in n t h ≡ true → reached_in (suc n) t h ≡ true
  unfolding reached_in
  grows zero h e = absurd (not-both e refl)
  grows (suc n) h e = step-up (reached_in n t) (reached_in (suc n) t) (grows n) h e

  -- what is reached is a heading
  in-heading : (n h : ℕ) → reached_in n t h ≡ true → byte (rec t h) 0 ≡ 1
  unfolding reached_in
  in-heading zero h e = absurd (not-both e refl)
  in-heading (suc n) h e = eqb-true _ _ (and_left (is_kind 1 (rec t h)) _ e)

  -- ---- as many steps as there are records are all

  abbrev Shut : ℕ → Type 0
  Shut n = (h : ℕ) → reached_in (suc n) t h ≡ true → reached_in n t h ≡ true

  count : ℕ → ℕ
  count n = count_below (reached_in n t) (rooms t)

  -- a step adds nothing, or one more is reached
  adds : (n : ℕ) → Shut n ⊎ (count n < count (suc n))
  unfolding count
  adds n = go (truth (any_below new (rooms t)))
    where
      new : ℕ → Bool
      new h = reached_in (suc n) t h && not (reached_in n t h)

      go : (any_below new (rooms t) ≡ true) ⊎ (any_below new (rooms t) ≡ false) → Shut n ⊎ (count n < count (suc n))
      go (inr e) =
          inl (λ h y. true-by (reached_in n t h) (λ z.
          let k = in-heading (suc n) h y in
          not-both (and_both (reached_in (suc n) t h) _ y (rw z)) (any_false new (rooms t) h (within t h w (omega arith)) e)))
      go (inl e) =
          let x = any-true new (rooms t) e in
          inr (count_less (reached_in n t) (reached_in (suc n) t) (rooms t) x.0 x.1
          (not-true _ (and_right (reached_in (suc n) t x.0) _ x.2)) (and_left (reached_in (suc n) t x.0) _ x.2) (λ i l. grows n i))

  -- so it stays shut, or so many are reached
  shut-or : (n : ℕ) → Shut n ⊎ (n < count (suc n))
  shut-or zero = go (adds zero)
    where
      go : Shut zero ⊎ (count zero < count 1) → Shut zero ⊎ (0 < count 1)
      go (inl s) = inl s
      go (inr l) = inr (omega arith)
  shut-or (suc n) = go (shut-or n) (adds (suc n))
    where
      go : Shut n ⊎ (n < count (suc n)) → Shut (suc n) ⊎ (count (suc n) < count (suc (suc n))) → Shut (suc n) ⊎ (suc n < count (suc (suc n)))
      go (inl s) x = inl (unfold reached_in in step-up (reached_in (suc n) t) (reached_in n t) s)
      go (inr l) (inl s) = inl s
      go (inr l) (inr m) = inr (omega arith)

  shut : Shut (rooms t)
  unfolding count
  shut = go (shut-or (rooms t)) (count_most (reached_in (suc (rooms t)) t) (rooms t))
    where
      go : Shut (rooms t) ⊎ (rooms t < count (suc (rooms t))) → count_below (reached_in (suc (rooms t)) t) (rooms t) ≤ rooms t → Shut (rooms t)
      go (inl s) m = s
      go (inr l) m = let z : ⊥ = omega arith in absurd z

  -- ---- what is reached

  pub reached-heading : (h : ℕ) → reached t h ≡ true → byte (rec t h) 0 ≡ 1
  unfolding reached
  reached-heading h = in-heading (rooms t) h

  -- a heading that a base file's entry names, or an entry of a reached directory
  pub reached-by : (h i : ℕ) → byte (rec t h) 0 ≡ 1 → i < rooms t → names h (rec t i) ≡ true → (is_base (rec t i) || reached t (holder_of (rec t i))) ≡ true
      → reached t h ≡ true
  unfolding reached reached_in
  reached-by h i k l n o =
      shut h (and_both (is_kind 1 (rec t h)) _ (rw k) (any_here (Leads t (reached_in (rooms t) t) h) (rooms t) i l (and_both (names h (rec t i)) _ n o)))

  -- .. and only such a one
  pub reached-from : (h : ℕ) → reached t h ≡ true
      → (i : ℕ) × (i < rooms t) × (names h (rec t i) ≡ true) × ((is_base (rec t i) || reached t (holder_of (rec t i))) ≡ true)
  unfolding reached reached_in
  reached-from h e =
      let x = any-true (Leads t (reached_in (rooms t) t) h) (rooms t) (and_right (is_kind 1 (rec t h)) _ (grows (rooms t) h e)) in
      (x.0, x.1, and_left (names h (rec t x.0)) _ x.2, and_right (names h (rec t x.0)) _ x.2)

  -- by however many steps
  pub in-reached : (n h : ℕ) → reached_in n t h ≡ true → reached t h ≡ true
  unfolding reached_in
  in-reached zero h e = absurd (not-both e refl)
  in-reached (suc n) h e =
      let x = any-true (Leads t (reached_in n t) h) (rooms t) (and_right (is_kind 1 (rec t h)) _ e) in
      reached-by h x.0 (eqb-true _ _ (and_left (is_kind 1 (rec t h)) _ e)) x.1 (and_left (names h (rec t x.0)) _ x.2)
      (or-up (is_base (rec t x.0)) (reached_in n t (holder_of (rec t x.0))) _ (in-reached n (holder_of (rec t x.0)))
      (and_right (names h (rec t x.0)) _ x.2))
