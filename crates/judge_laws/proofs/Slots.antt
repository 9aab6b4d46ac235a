-- Slots: thing h has w h slots, from the sum of those before it on; each item that passes `it` belongs to thing `hd i` at place `ps i`.
-- A slot is one place of one thing, so each place has one item exactly when there are as many items as slots and no slot has two.
use mathlib.Core.Bool.{Bool, true, false, ◌&&◌}
use mathlib.Core.Logic.{◌⊎◌, inl, inr, ◌≢◌, by_cases}
use mathlib.Core.Path.{◌≡◌, refl, sym, ◌∙◌}
use Prim.Native.Nat.{ℕ, zero, suc, ◌+◌, ◌-◌, ◌≤◌, ◌<◌}
use native.Mathlib.Omega.{arith}
use native.Mathlib.Decide.{ℕ_discrete, dec_lt}
use lib.Dec.{eqb}
use borrow.Author.Tests.{eq-eqb, ne_eqb}
use Rattle.judge_laws.specs.Tally.{sum_below}
use Rattle.paper.specs.Scan.{count_below}
use Rattle.laws.proofs.Counts.{count-cong}
use Rattle.laws.proofs.Tests.{truth}
use Rattle.judge_laws.proofs.Sums.{sum_mono, sum_ones, pigeonhole, count_by}

-- a slot is one place of one thing
pub slot_apart : (w : ℕ → ℕ) (a b p q : ℕ) → a < b → p < w a → sum_below w a + p < sum_below w b + q
slot_apart w a b p q l k = omega (arith, sum_mono w b a l)

pub slot-thing : (w : ℕ → ℕ) (a b p q : ℕ) → p < w a → q < w b → sum_below w a + p ≡ sum_below w b + q → a ≡ b
slot-thing w a b p q l k e =
    by_cases (dec_lt a b)
    (λ (c : a < b). let z : ⊥ = omega (arith, slot_apart w a b p q c l) in absurd z)
    (λ (c : ¬ (a < b)). by_cases (dec_lt b a)
    (λ (d : b < a). let z : ⊥ = omega (arith, slot_apart w b a q p d k) in absurd z)
    (λ (d : ¬ (b < a)). omega arith))

-- each slot below the sum is a place of a thing
pub slot-find : (w : ℕ → ℕ) (n s : ℕ) → s < sum_below w n → (h : ℕ) × (h < n) × ((s - sum_below w h) < w h) × (sum_below w h + (s - sum_below w h) ≡ s)
unfolding sum_below
slot-find w zero s l = let z : ⊥ = omega arith in absurd z
slot-find w (suc n) s l =
    by_cases (dec_lt s (sum_below w n))
    (λ (c : s < sum_below w n). let r = slot-find w n s c in (r.0, omega (arith, r.1), r.2, r.3))
    (λ (c : ¬ (s < sum_below w n)). (n, omega arith, omega arith, omega arith))

module _ (n : ℕ) (w : ℕ → ℕ) (it : ℕ → Bool) (hd ps : ℕ → ℕ)
    (fit : (i : ℕ) → i < n → it i ≡ true → (hd i < n) × (ps i < w (hd i))) where
  -- counted by slot, or by thing and place
  same_count : (h p : ℕ) → p < w h
      → count_below (λ i. it i && (eqb (hd i) h && eqb (ps i) p)) n ≡ count_below (λ i. it i && eqb (sum_below w (hd i) + ps i) (sum_below w h + p)) n
  same_count h p l = count-cong _ _ n (λ i k. go i k (truth (it i)))
    where
      at : (i : ℕ) → ps i < w (hd i) → (eqb (hd i) h && eqb (ps i) p) ≡ eqb (sum_below w (hd i) + ps i) (sum_below w h + p)
      at i f =
          by_cases (ℕ_discrete (hd i) h)
          (λ (q : hd i ≡ h). by_cases (ℕ_discrete (ps i) p)
          (λ (r : ps i ≡ p). rw (q, r, eq-eqb h h refl, eq-eqb p p refl) (sym (eq-eqb (sum_below w h + p) (sum_below w h + p) refl)))
          (λ (r : ps i ≢ p).
          rw (q, eq-eqb h h refl, ne_eqb (ps i) p r)
          (sym (ne_eqb (sum_below w h + ps i) (sum_below w h + p) (λ (z : sum_below w h + ps i ≡ sum_below w h + p). r (omega arith))))))
          (λ (q : hd i ≢ h).
          rw (ne_eqb (hd i) h q)
          (sym (ne_eqb (sum_below w (hd i) + ps i) (sum_below w h + p) (λ z. q (slot-thing w (hd i) h (ps i) p f l z)))))

      go : (i : ℕ) → i < n → (it i ≡ true) ⊎ (it i ≡ false)
          → (it i && (eqb (hd i) h && eqb (ps i) p)) ≡ (it i && eqb (sum_below w (hd i) + ps i) (sum_below w h + p))
      go i k (inl e) = rw e (at i (fit i k e).1)
      go i k (inr e) = rw e

  -- how many items have slot s
  abbrev pub in_slot : ℕ → ℕ → ℕ
  in_slot s m = count_below (λ i. it i && eqb (sum_below w (hd i) + ps i) s) m

  slot-below : (i : ℕ) → i < n → it i ≡ true → sum_below w (hd i) + ps i < sum_below w n
  slot-below i l e = let f = fit i l e in omega (arith, sum_mono w n (hd i) f.0)

  pub slots-sum : sum_below (λ s. in_slot s n) (sum_below w n) ≡ count_below it n
  slots-sum = count_by it (λ i. sum_below w (hd i) + ps i) (sum_below w n) n slot-below

  -- each place of each thing has exactly one item
  abbrev pub Places : Type 0
  Places = (h : ℕ) → h < n → (p : ℕ) → p < w h → count_below (λ i. it i && (eqb (hd i) h && eqb (ps i) p)) n ≡ 1

  pub places-slots : Places → (s : ℕ) → s < sum_below w n → in_slot s n ≡ 1
  places-slots h s l =
      let r = slot-find w n s l in
      rw (← r.3) (sym (same_count r.0 (s - sum_below w r.0) r.2) ∙ h r.0 r.1 (s - sum_below w r.0) r.2)

  pub slots-places : ((s : ℕ) → s < sum_below w n → in_slot s n ≡ 1) → Places
  slots-places g h l p k = same_count h p k ∙ g (sum_below w h + p) (omega (arith, sum_mono w n h l))

  -- as many items as places
  pub places-total : Places → count_below it n ≡ sum_below w n
  places-total h = sym slots-sum ∙ sum_ones (λ s. in_slot s n) (sum_below w n) (places-slots h)

  -- as many items as places, and no slot twice: each place exactly once
  pub total-places : count_below it n ≡ sum_below w n → ((s : ℕ) → s < sum_below w n → in_slot s n ≤ 1) → Places
  total-places e h = slots-places (pigeonhole (λ s. in_slot s n) (sum_below w n) h (slots-sum ∙ e))
