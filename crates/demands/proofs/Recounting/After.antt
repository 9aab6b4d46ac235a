-- One record laid, which neither was nor is a heading: a count of records by a test goes up by one where the new record passes it and the old
-- one does not, and down by one the other way round. So the headings whose counts are untrue then are those that one of the two speaks of.
use mathlib.Core.Bool.{Bool, true, false, ◌&&◌, ◌||◌, not}
use mathlib.Core.List.{List, [], ◌++◌}
use mathlib.Core.Logic.{◌≢◌, by_cases}
use mathlib.Core.Path.{◌≡◌, refl, sym, ap, ◌∙◌}
use Prim.Native.Nat.{ℕ, ◌+◌, ◌^◌, ◌≤◌, ◌<◌}
use native.Mathlib.Omega.{arith}
use native.Mathlib.Decide.{ℕ_discrete}
use lib.ListN.{length, take, drop}
use lib.Dec.{eqb}
use borrow.Author.Tests.{eqb-true, eq-eqb, ne_eqb}
use Rattle.paper.specs.Number.{number_at, bytes_of}
use Rattle.paper.specs.Scan.{count_below}
use Rattle.paper.specs.Record.{byte, is_kind, directory, names}
use Rattle.paper.specs.Table.{rooms, rec, lay}
use Rattle.paper.specs.Entry.{Holder, holder, stands, crowd}
use Rattle.paper.specs.Sound.{counts_true}
use Rattle.paper.specs.Count.{namings, holdings, says, counts_right, untrue}
use Rattle.paper.specs.Answer.{yes_no}
use Rattle.laws.proofs.Tests.{and_left, and_right, same_truth}
use Rattle.laws.proofs.Numbers.{number-bytes}
use Rattle.laws.proofs.Counts.{count-cong, count-more-at}
use Rattle.laws.proofs.Entries.{same_true}
use Rattle.laws.proofs.Lay.{lay-same, lay-other, rooms-lay}
use Rattle.demands.proofs.Mending.Counts.{counts-at}
use Rattle.demands.proofs.Recounting.Numbers.{namings-small, holdings-small}

-- two tests that agree but at a: their counts differ by what they say there
count_at : (p q : ℕ → Bool) (n a : ℕ) → a < n → ((i : ℕ) → i < n → i ≢ a → p i ≡ q i) → count_below q n + yes_no (p a) ≡ count_below p n + yes_no (q a)
count_at p q n a l h = go (p a) refl (q a) refl
  where
    equal : (b : Bool) → p a ≡ b → q a ≡ b → count_below q n ≡ count_below p n
    equal b x y =
        count-cong q p n (λ i m. by_cases (ℕ_discrete i a) (λ (e : i ≡ a). rw e (y ∙ sym x)) (λ (d : i ≢ a). sym (h i m d)))

    go : (b : Bool) → p a ≡ b → (c : Bool) → q a ≡ c → count_below q n + yes_no b ≡ count_below p n + yes_no c
    go true x true y = rw (equal true x y)
    go false x false y = rw (equal false x y)
    go true x false y = rw (count-more-at q p n a l y x (λ i m d. sym (h i m d))) (omega arith)
    go false x true y = rw (count-more-at p q n a l x y h) (omega arith)

-- the entry's store, to a table with true counts: record e, no heading, becomes r, no heading; over an entry, r stands where that stood
pub record Entering (t : List ℕ) (e : ℕ) (r : List ℕ) : Type 0 where
  pub within : e < rooms t
  pub size : length r ≡ 32
  pub few : rooms t ≤ 2048
  pub old : byte (rec t e) 0 ≢ 1
  pub new : byte r 0 ≢ 1
  pub place : byte (rec t e) 0 ≡ 2 → byte r 0 ≡ 2 → holder r ≡ holder (rec t e)
  pub counts : counts_true t ≡ true

-- bytes that say a number say another only where it is the same
says_same : (a b : ℕ) (j : ℕ) (r : List ℕ) → a < 256 ^ 2 → b < 256 ^ 2 → says a j r ≡ true → says b j r ≡ eqb a b
says_same a b j r k l s = same_truth (says b j r) (eqb a b) there back
  where
    first : take 2 (drop j r) ≡ bytes_of 2 a
    first = same_true _ _ s

    there : says b j r ≡ true → eqb a b ≡ true
    there e =
        let q : bytes_of 2 a ≡ bytes_of 2 b = sym first ∙ same_true (take 2 (drop j r)) (bytes_of 2 b) e in
        eq-eqb a b (sym (number-bytes 2 a [] k) ∙ ap (λ (x : List ℕ). number_at 2 (x ++ []) 0) q ∙ number-bytes 2 b [] l)

    back : eqb a b ≡ true → says b j r ≡ true
    back e = rw (← (eqb-true a b e)) s

module _ (t : List ℕ) (e : ℕ) (r : List ℕ) (g : Entering t e r) where
  abbrev f : List ℕ
  f = lay t e r

  here : rec f e ≡ r
  here = lay-same t e r g.size g.within

  there : (i : ℕ) → i < rooms t → i ≢ e → rec f i ≡ rec t i
  there i l d = lay-other t e r i g.size d l

  laid : (test : List ℕ → Bool)
      → count_below (λ i. test (rec f i)) (rooms t) + yes_no (test (rec t e)) ≡ count_below (λ i. test (rec t i)) (rooms t) + yes_no (test r)
  laid test =
      count_at (λ i. test (rec t i)) (λ i. test (rec f i)) (rooms t) e g.within (λ i l d. rw (there i l d)) ∙ rw here

  -- "the file named, the file displaced": one more, one less, or as many
  pub namings-after : (h : ℕ) → namings f h + yes_no (names h (rec t e)) ≡ namings t h + yes_no (names h r)
  unfolding namings
  namings-after h = rw rooms-lay (laid (names h))

  -- "the holder"
  pub crowd-after : (d : Holder) → crowd f d + yes_no (stands d (rec t e)) ≡ crowd t d + yes_no (stands d r)
  unfolding crowd
  crowd-after d = rw rooms-lay (laid (stands d))

  -- a heading stays
  pub heading-stays : (i : ℕ) → i < rooms t → is_kind 1 (rec f i) ≡ is_kind 1 (rec t i)
  heading-stays i l =
      by_cases (ℕ_discrete i e)
      (λ (q : i ≡ e). rw (q, here) (ne_eqb _ _ g.new ∙ sym (ne_eqb _ _ g.old)))
      (λ (q : i ≢ e). rw (there i l q))

  pub heading-same : (i : ℕ) → i < rooms t → byte (rec t i) 0 ≡ 1 → rec f i ≡ rec t i
  heading-same i l k = there i l (λ (q : i ≡ e). g.old (rw q at k))

  few-f : rooms f ≤ 2048
  few-f = rw rooms-lay g.few

  -- the counts of heading i have changed
  abbrev pub changed : ℕ → Bool
  changed i = not (eqb (namings t i) (namings f i)) || directory (rec t i) && not (eqb (holdings t i) (holdings f i))

  -- "corrects every heading whose counts its entry store made untrue": those whose counts have changed
  pub untrue-changed : (i : ℕ) → i < rooms t → untrue f i ≡ (is_kind 1 (rec t i) && changed i)
  unfolding counts_right
  untrue-changed i l = ap (λ (b : Bool). b && not (counts_right f i (rec f i))) (heading-stays i l) ∙ go (is_kind 1 (rec t i)) refl
    where
      turned : (a d b : Bool) → not (a && (not d || b)) ≡ (not a || d && not b)
      turned true true b = refl
      turned true false b = refl
      turned false d b = refl

      go : (b : Bool) → is_kind 1 (rec t i) ≡ b → (b && not (counts_right f i (rec f i))) ≡ (b && changed i)
      go false q = refl
      go true q =
          let k : byte (rec t i) 0 ≡ 1 = eqb-true _ _ q in
          let c : counts_right t i (rec t i) ≡ true = counts-at t g.counts i l k in
          let a : says (namings f i) 12 (rec t i) ≡ eqb (namings t i) (namings f i) =
          says_same (namings t i) (namings f i) 12 (rec t i) (namings-small t g.few i) (namings-small f few-f i)
          (and_left (says (namings t i) 12 (rec t i)) _ c) in
          rw (heading-same i l k, a)
          (held (directory (rec t i)) (and_right (says (namings t i) 12 (rec t i)) (not (directory (rec t i)) || says (holdings t i) 14 (rec t i)) c))
        where
          held : (d : Bool) → (not d || says (holdings t i) 14 (rec t i)) ≡ true
              → not (eqb (namings t i) (namings f i) && (not d || says (holdings f i) 14 (rec t i)))
              ≡ (not (eqb (namings t i) (namings f i)) || d && not (eqb (holdings t i) (holdings f i)))
          held true z =
              rw (says_same (holdings t i) (holdings f i) 14 (rec t i) (holdings-small t g.few i) (holdings-small f few-f i) z)
              (turned (eqb (namings t i) (namings f i)) true (eqb (holdings t i) (holdings f i)))
          held false z = turned (eqb (namings t i) (namings f i)) false (says (holdings f i) 14 (rec t i))
