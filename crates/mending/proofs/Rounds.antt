-- What a round puts into the order is what it clears, step by step on the table that the last step leaves; round by round, what is in the
-- order and what the rounds still to come clear is what all of them clear, and after a round that changes nothing none is to come.
use mathlib.Core.List.{List, [], ◌++◌, append_assoc, append-nil}
use mathlib.Core.Path.{◌≡◌, refl, sym, ap, ◌∙◌}
use Prim.Native.Nat.{ℕ, suc, ◌+◌, ◌-◌, ◌<◌, ◌≤◌}
use native.Mathlib.Omega.{arith}
use native.Mathlib.Nat.{sub-zero}
use lib.ListN.{length, replicate, get_or-replicate}
use Rattle.paper.specs.Count.{namings}
use Rattle.paper.specs.Mend.{orphan, mend_first, mend_second, mend_third, after₁, after₂, round_stores, round, rounds_stores, clear_stores, cleared}
use Rattle.paper.specs.Scan.{join_below}
use Rattle.paper.specs.Store.{Store, clears, run}
use Rattle.paper.specs.Table.{rooms}
use Rattle.judge_laws.specs.Mask.{goes, without}
use Rattle.judge_laws.proofs.Mask.{rooms-without, without-zeros}
use Rattle.laws.proofs.Counts.{count_none}
use Rattle.demands.proofs.Mending.Settled.{still-rounds}
use Rattle.records.specs.Numbered.{Numbered}
use Rattle.mending.specs.Found.{ordered, Found, stepped}
use Rattle.mending.specs.declared.Step.TheVariants.{Entries, Headings, Text}
use Rattle.effects.proofs.Allowed.{clears-cong}
use Rattle.mending.proofs.Order.{found_as, found-own, found_after}
use Rattle.mending.proofs.Steps.{unnamed-is}

-- ---- the three steps of a round

first-is : (named u : List ℕ) (n : ℕ) → n ≡ rooms u → clears (stepped Entries named u) n ≡ mend_first u
first-is named u n e = rw e

second_is : (named u : List ℕ) (n : ℕ) → n ≡ rooms u → n ≤ 2048 → Numbered (namings u) named → clears (stepped Headings named u) n ≡ mend_second u
second_is named u n e m c =
    clears-cong (stepped Headings named u) (orphan u) n (λ i (l : i < n). unnamed-is u named (omega arith) c i (omega arith)) ∙ rw e

third-is : (named u : List ℕ) (n : ℕ) → n ≡ rooms u → clears (stepped Text named u) n ≡ mend_third u
third-is named u n e = rw e

module _ (t gone gone₁ gone₂ gone₃ order order₁ order₂ order₃ before named : List ℕ) (n n₁ n₂ n₃ : ℕ) (most : rooms t ≤ 2048)
    (f : Found t gone order n (ordered order n)) (a : Found t gone₁ order₁ n₁ (ordered order n ++ clears (stepped Entries before (without gone t)) (rooms t)))
    (c : Numbered (namings (without gone₁ t)) named)
    (b : Found t gone₂ order₂ n₂ (ordered order₁ n₁ ++ clears (stepped Headings named (without gone₁ t)) (rooms t)))
    (d : Found t gone₃ order₃ n₃ (ordered order₂ n₂ ++ clears (stepped Text named (without gone₂ t)) (rooms t))) where
  stage₁ : clears (stepped Entries before (without gone t)) (rooms t) ≡ mend_first (without gone t)
  stage₁ = first-is before (without gone t) (rooms t) (sym (rooms-without gone t))

  table₁ : without gone₁ t ≡ after₁ (without gone t)
  unfolding after₁
  table₁ = found_after t gone gone₁ order order₁ n n₁ _ f a ∙ ap (run (without gone t)) stage₁

  stage₂ : clears (stepped Headings named (without gone₁ t)) (rooms t) ≡ mend_second (after₁ (without gone t))
  stage₂ = second_is named (without gone₁ t) (rooms t) (sym (rooms-without gone₁ t)) most c ∙ ap (λ (u : List ℕ). mend_second u) table₁

  table₂ : without gone₂ t ≡ after₂ (without gone t)
  unfolding after₂
  table₂ =
      found_after t gone₁ gone₂ order₁ order₂ n₁ n₂ _ (found-own t gone₁ order₁ n₁ _ a) b ∙ ap (run (without gone₁ t)) stage₂
      ∙ ap (λ (u : List ℕ). run u (mend_second (after₁ (without gone t)))) table₁

  stage₃ : clears (stepped Text named (without gone₂ t)) (rooms t) ≡ mend_third (after₂ (without gone t))
  stage₃ = third-is named (without gone₂ t) (rooms t) (sym (rooms-without gone₂ t)) ∙ ap (λ (u : List ℕ). mend_third u) table₂

  pub round-found : Found t gone₃ order₃ n₃ (ordered order n ++ round_stores (without gone t))
  unfolding round_stores
  round-found = found_as t gone₃ order₃ n₃ _ _ (rw (b.made, a.made, stage₁, stage₂, stage₃) (joined (ordered order n) _ _ _)) d
    where
      joined : (p q r s : List Store) → ((p ++ q) ++ r) ++ s ≡ p ++ (q ++ (r ++ s))
      joined p q r s = append_assoc (p ++ q) r s ∙ append_assoc p q (r ++ s)

-- ---- all rounds

-- before the first nothing is in the order
pub rounds-none : (t order : List ℕ) → length order ≡ 2048 → rooms t ≤ 2048 → Found t (replicate 2048 0) order 0 (ordered order 0)
unfolding join_below run
rounds-none t order l most =
    record {
      made = refl;
      table = without-zeros 2048 t;
      count = sym (count_none (goes (replicate 2048 0)) (rooms t) (λ i (b : i < rooms t). rw (get_or-replicate {A = ℕ} 2048 i 0 0 (omega arith))));
      marks = refl;
      places = l;
    }

pub rounds-start : (t order : List ℕ) (n : ℕ) → n ≡ rooms t → ordered order 0 ++ rounds_stores (n - 0) (without (replicate 2048 0) t) ≡ clear_stores t
unfolding join_below clear_stores
rounds-start t order n e = rw (sub-zero, without-zeros 2048 t, e)

-- one more
module _ (t gone gone' order order' : List ℕ) (n n' : ℕ) (f : Found t gone order n (ordered order n))
    (g : Found t gone' order' n' (ordered order n ++ round_stores (without gone t))) where
  pub rounds-more : (k m : ℕ) → m < k → ordered order n ++ rounds_stores (k - m) (without gone t) ≡ clear_stores t
      → ordered order' n' ++ rounds_stores (k - (m + 1)) (without gone' t) ≡ clear_stores t
  unfolding rounds_stores round
  rounds-more k m l e =
      let q : k - m ≡ suc (k - (m + 1)) = omega arith in
      rw (g.made, found_after t gone gone' order order' n n' _ f g)
      (append_assoc (ordered order n) (round_stores (without gone t)) _) ∙ rw q at e

-- none to come
module _ (t gone order : List ℕ) (n k m : ℕ) (f : Found t gone order n (ordered order n))
    (e : ordered order n ++ rounds_stores (k - m) (without gone t) ≡ clear_stores t) where
  pub rounds-settled : round_stores (without gone t) ≡ [] → Found t gone order n (clear_stores t)
  rounds-settled z = found_as t gone order n _ _ (rw (still-rounds (k - m) (without gone t) z, append-nil) at e) f

  pub rounds-all : k ≤ m → Found t gone order n (clear_stores t)
  unfolding rounds_stores
  rounds-all l = let q : k - m ≡ 0 = omega arith in found_as t gone order n _ _ (rw (q, append-nil) at e) f

-- without what all rounds clear
pub without-found : (t gone order : List ℕ) (n : ℕ) → Found t gone order n (clear_stores t) → without gone t ≡ cleared t
unfolding cleared
without-found t gone order n f = f.table
