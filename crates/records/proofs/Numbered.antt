-- Entries counted: one more entry is one more for the record that it names and the directory that holds it, and leaves every other count.
-- So the numbers after the last entry tell what each heading must say.
use mathlib.Core.Bool.{Bool, true, false, ◌&&◌, not, cond}
use mathlib.Core.List.{List}
use mathlib.Core.Logic.{◌⊎◌, inl, inr, ◌≢◌, by_cases}
use mathlib.Core.Path.{◌≡◌, refl, sym, ◌∙◌}
use Prim.Native.Nat.{ℕ, ◌+◌, ◌≤◌, ◌<◌}
use native.Mathlib.Omega.{arith}
use native.Mathlib.Decide.{ℕ_discrete}
use lib.ListN.{length, get_or, set, length-set}
use lib.Seq.{get_or-set_same, get_or-set_other}
use lib.Dec.{eqb}
use borrow.Author.Tests.{eq-eqb, ne_eqb}
use Rattle.paper.specs.Count.{namings, holdings, counts_right}
use Rattle.paper.specs.Entry.{in_directory, stands, crowd, named}
use Rattle.paper.specs.Record.{is_kind, heading_named, holder_of, user_of, names}
use Rattle.paper.specs.Scan.{any_below, count_below}
use Rattle.paper.specs.Table.{rooms, rec}
use Rattle.laws.proofs.Counts.{count-more, count_none, count_most, count-least}
use Rattle.laws.proofs.Scans.{any-true, any_here}
use Rattle.laws.proofs.Tests.{truth, not-both, false-by}
use Rattle.records.specs.Counts.{tells}
use Rattle.records.specs.Numbered.{naming, holding, Numbered}

-- numbers that stay, and one that is one more
pub numbered-same : (f g : ℕ → ℕ) (a : List ℕ) → Numbered f a → ((h : ℕ) → h < 2048 → g h ≡ f h) → Numbered g a
numbered-same f g a n e = record { at = λ h l. n.at h l ∙ sym (e h l); long = n.long }

pub numbered_more : (f g : ℕ → ℕ) (a : List ℕ) (k v : ℕ) → Numbered f a → k < 2048 → v ≡ g k → ((h : ℕ) → h < 2048 → h ≢ k → g h ≡ f h)
    → Numbered g (set a k v)
numbered_more f g a k v n l e x =
    record {
      at = λ h b. by_cases (ℕ_discrete h k)
          (λ (q : h ≡ k). rw q (get_or-set_same a k v 0 (omega (arith, n.long)) ∙ e))
          (λ (q : h ≢ k). get_or-set_other a k h v 0 q ∙ n.at h b ∙ sym (x h b q));
      long = length-set a k v ∙ n.long;
    }

pub numbered-none : (f : ℕ → ℕ) (a : List ℕ) → length a ≡ 2048 → ((h : ℕ) → h < 2048 → get_or a h 0 ≡ 0) → ((h : ℕ) → f h ≡ 0) → Numbered f a
numbered-none f a l z e = record { at = λ h b. z h b ∙ sym (e h); long = l }

-- none exactly where none is counted
pub counted-any : (p : ℕ → Bool) (n : ℕ) → not (eqb (count_below p n) 0) ≡ any_below p n
counted-any p n = go (truth (any_below p n))
  where
    go : (any_below p n ≡ true) ⊎ (any_below p n ≡ false) → not (eqb (count_below p n) 0) ≡ any_below p n
    go (inl e) =
        let i = any-true p n e in
        let l = count-least p n i.0 i.1 i.2 in
        rw (e, ne_eqb (count_below p n) 0 (λ (z : count_below p n ≡ 0). let y : ⊥ = omega arith in y))
    go (inr e) =
        let z : count_below p n ≡ 0 = count_none p n (λ i l. false-by (p i) (λ q. not-both (any_here p n i l q) e)) in
        rw (e, z)

module _ (t : List ℕ) (i : ℕ) where
  pub naming-more : (h : ℕ) → naming t (i + 1) h ≡ cond (names h (rec t i)) (naming t i h + 1) (naming t i h)
  unfolding naming
  naming-more h = count-more (λ j. names h (rec t j)) i

  pub holding-more : (d : ℕ) → holding t (i + 1) d ≡ cond (stands (in_directory d) (rec t i)) (holding t i d + 1) (holding t i d)
  unfolding holding
  holding-more d = count-more (λ j. stands (in_directory d) (rec t j)) i

  pub naming-most : (h : ℕ) → naming t i h ≤ i
  unfolding naming
  naming-most h = count_most (λ j. names h (rec t j)) i

  -- an entry is counted for the heading that it names
  pub named_more : is_kind 2 (rec t i) ≡ true → (named : List ℕ) (v : ℕ) → Numbered (naming t i) named → heading_named (rec t i) < 2048
      → v ≡ get_or named (heading_named (rec t i)) 0 + 1 → Numbered (naming t (i + 1)) (set named (heading_named (rec t i)) v)
  named_more k named v n l e =
      numbered_more (naming t i) (naming t (i + 1)) named h v n l
      (e ∙ rw (n.at h l, naming-more h, k, eq-eqb h h refl))
      (λ g b q. naming-more g ∙ rw (k, ne_eqb h g (λ x. q (sym x))))
    where
      h : ℕ
      h = heading_named (rec t i)

-- none before the first entry
module _ (t a : List ℕ) (z : Numbered (λ _. 0) a) where
  pub naming-none : Numbered (naming t 0) a
  unfolding naming count_below
  naming-none = numbered-same (λ _. 0) (naming t 0) a z (λ h l. refl)

  pub holding-none : Numbered (holding t 0) a
  unfolding holding count_below
  holding-none = numbered-same (λ _. 0) (holding t 0) a z (λ h l. refl)

pub holding-most : (t : List ℕ) (i h : ℕ) → holding t i h ≤ i
unfolding holding
holding-most t i h = count_most (λ j. stands (in_directory h) (rec t j)) i

-- one more record
module _ (t a : List ℕ) (i : ℕ) where
  -- it is no entry
  pub naming-other : is_kind 2 (rec t i) ≡ false → Numbered (naming t i) a → Numbered (naming t (i + 1)) a
  naming-other k n = numbered-same (naming t i) (naming t (i + 1)) a n (λ h l. naming-more t i h ∙ rw k)

  pub holding-other : is_kind 2 (rec t i) ≡ false → Numbered (holding t i) a → Numbered (holding t (i + 1)) a
  unfolding stands
  holding-other k n = numbered-same (holding t i) (holding t (i + 1)) a n (λ h l. holding-more t i h ∙ rw k)

  -- it names, or stands in, a record that no table has; or it stands in no directory
  pub naming-past : 2048 ≤ heading_named (rec t i) → Numbered (naming t i) a → Numbered (naming t (i + 1)) a
  naming-past b n = numbered-same (naming t i) (naming t (i + 1)) a n (λ h l. naming-more t i h ∙ rw (none h l))
    where
      none : (h : ℕ) → h < 2048 → names h (rec t i) ≡ false
      none h l =
          rw (ne_eqb (heading_named (rec t i)) h (λ (x : heading_named (rec t i) ≡ h). let z : ⊥ = omega arith in z)) (go (is_kind 2 (rec t i)))
        where
          go : (b : Bool) → (b && false) ≡ false
          go true = refl
          go false = refl

  apart : ((h : ℕ) → h < 2048 → stands (in_directory h) (rec t i) ≡ false) → Numbered (holding t i) a → Numbered (holding t (i + 1)) a
  apart none n = numbered-same (holding t i) (holding t (i + 1)) a n (λ h l. holding-more t i h ∙ rw (none h l))

  pub holding-past : is_kind 2 (rec t i) ≡ true → 2048 ≤ holder_of (rec t i) → Numbered (holding t i) a → Numbered (holding t (i + 1)) a
  unfolding stands
  holding-past k b =
      apart (λ h l. rw (k, ne_eqb (holder_of (rec t i)) h (λ (x : holder_of (rec t i) ≡ h). let z : ⊥ = omega arith in z)))

  pub holding-used : is_kind 2 (rec t i) ≡ true → (user_of (rec t i) ≡ 0 → ⊥) → Numbered (holding t i) a → Numbered (holding t (i + 1)) a
  unfolding stands
  holding-used k u = apart (λ h l. rw (k, ne_eqb (user_of (rec t i)) 0 u) (go (eqb (holder_of (rec t i)) h)))
    where
      go : (b : Bool) → (b && false) ≡ false
      go true = refl
      go false = refl

  -- it is counted for its directory
  pub holding-one : (v : ℕ) → is_kind 2 (rec t i) ≡ true → user_of (rec t i) ≡ 0 → holder_of (rec t i) < 2048 → Numbered (holding t i) a
      → v ≡ get_or a (holder_of (rec t i)) 0 + 1 → Numbered (holding t (i + 1)) (set a (holder_of (rec t i)) v)
  unfolding stands
  holding-one v k u l n e =
      numbered_more (holding t i) (holding t (i + 1)) a d v n l
      (e ∙ rw (n.at d l, holding-more t i d, k, u, eq-eqb d d refl))
      (λ g b q. holding-more t i g ∙ rw (k, ne_eqb d g (λ x. q (sym x))))
    where
      d : ℕ
      d = holder_of (rec t i)

-- after the last
module _ (t a : List ℕ) where
  pub namings-all : Numbered (naming t (rooms t)) a → Numbered (namings t) a
  unfolding naming namings
  namings-all n = n

  pub holdings-all : Numbered (holding t (rooms t)) a → Numbered (holdings t) a
  unfolding holding crowd
  holdings-all n = n

  -- the numbers tell whether a heading is named
  pub named-tells : (i : ℕ) → Numbered (namings t) a → i < 2048 → not (eqb (get_or a i 0) 0) ≡ named t i
  unfolding namings named
  named-tells i n l = rw (n.at i l) (counted-any (λ j. names i (rec t j)) (rooms t))

-- .. and what it must say
pub counts-tell : (t a b : List ℕ) (i : ℕ) (r : List ℕ) → Numbered (namings t) a → Numbered (holdings t) b → i < 2048
    → tells (get_or a i 0) (get_or b i 0) r ≡ counts_right t i r
unfolding tells counts_right
counts-tell t a b i r n m l = rw (n.at i l, m.at i l)
