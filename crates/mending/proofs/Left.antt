-- The tests of mending in the table without the records that go: a record that is marked passes none, and any other is as it was.
-- So each is the test of the record in the table as it is, and of its mark.
use mathlib.Core.Bool.{Bool, true, false, ◌&&◌, not, cond}
use mathlib.Core.List.{List, [], ◌∷◌, ◌++◌}
use mathlib.Core.Logic.{◌≢◌, by_cases}
use mathlib.Core.Path.{◌≡◌, sym, ◌∙◌}
use Prim.Native.Nat.{ℕ, ◌+◌, ◌<◌, ◌≤◌, min}
use lib.Dec.{eqb}
use Rattle.paper.specs.Count.{namings}
use Rattle.paper.specs.Scan.{count_below}
use mathlib.Core.Path.{refl}
use native.Mathlib.Omega.{arith}
use native.Mathlib.Decide.{dec_lt}
use lib.ListN.{set}
use borrow.Author.Tests.{eqb-true, ne_eqb}
use Rattle.paper.specs.Mend.{anchored, keeps_text}
use Rattle.paper.specs.Record.{byte, blank, is_kind, heading_named, holder_of, names}
use Rattle.paper.specs.Store.{clear}
use Rattle.paper.specs.Table.{sized, rooms, rec}
use Rattle.judge_laws.specs.Mask.{stays, without}
use Rattle.judge_laws.proofs.Mask.{rooms-without, whole-without, rec-stays}
use Rattle.judge_laws.proofs.Tests.{and-past-right}
use Rattle.laws.proofs.Counts.{count-cong}
use Rattle.laws.proofs.Lay.{Whole, rec-past, within}
use Rattle.laws.proofs.Sound.{sized-whole}
use Rattle.laws.proofs.Tests.{and_left, and_right, and-no-right}
use Rattle.records.specs.Numbered.{Numbered}
use Rattle.records.proofs.Numbered.{numbered-same}
use Rattle.effects.specs.Tally.{namings_left}
use Rattle.mending.specs.Found.{ordered, Found, stepped}
use Rattle.mending.specs.declared.Step.{Step}
use Rattle.mending.specs.declared.Step.TheVariants.{Entries, Headings, Text}
use Rattle.mending.proofs.Order.{rec-without, found-more}

-- ---- what an entry is held by

module _ (u r : List ℕ) (h : ℕ) (b : Bool) (e : h ≡ heading_named r) (k : b ≡ is_kind 1 (rec u h)) where
  pub anchored-no : b ≡ false → false ≡ anchored u r
  unfolding anchored
  anchored-no z = rw (← e, ← k, z)

  module _ (y : b ≡ true) (d : ℕ) (q : d ≡ holder_of r) where
    pub anchored-base : d ≡ 65535 → true ≡ anchored u r
    unfolding anchored
    anchored-base z = rw (← e, ← k, y, ← q, z)

    pub anchored-by : d ≢ 65535 → (x : Bool) → x ≡ is_kind 1 (rec u d) → x ≡ anchored u r
    unfolding anchored
    anchored-by z x f = rw (← e, ← k, y, ← q, ne_eqb d 65535 z, ← f)

-- ---- one record

pub no-text : (r : List ℕ) → is_kind 1 r ≡ false → keeps_text r ≡ false
unfolding keeps_text
no-text r e = rw e

module _ (gone t : List ℕ) (i : ℕ) (w : Whole t) where
  pub kind-left : (k : ℕ) → 0 < k → is_kind k (rec (without gone t) i) ≡ (is_kind k (rec t i) && stays gone i)
  unfolding blank
  kind-left k z =
      by_cases (dec_lt i (rooms t))
      (λ (l : i < rooms t). rw (rec-without gone t i l) (go (stays gone i)))
      (λ (l : ¬ (i < rooms t)).
      rw (rec-past (without gone t) i (whole-without gone t w) (rw (rooms-without gone t) (omega arith)), rec-past t i w (omega arith), none))
    where
      none : eqb 0 k ≡ false
      none = ne_eqb 0 k (λ (q : 0 ≡ k). omega arith)

      go : (b : Bool) → is_kind k (cond (not b) blank (rec t i)) ≡ (is_kind k (rec t i) && b)
      go true = sym (and-past-right (is_kind k (rec t i)) true refl)
      go false = none ∙ sym (and-no-right (is_kind k (rec t i)) false refl)

  -- what is of a kind is as it was
  pub same-left : (k : ℕ) → 0 < k → is_kind k (rec (without gone t) i) ≡ true → rec (without gone t) i ≡ rec t i
  same-left k z e = rec-stays gone t w i (and_right (is_kind k (rec t i)) _ (sym (kind-left k z) ∙ e))

  -- .. and a record of the table
  pub within-left : (k : ℕ) → 0 < k → is_kind k (rec (without gone t) i) ≡ true → i < rooms t
  within-left k z e =
      let q : byte (rec t i) 0 ≡ k = eqb-true _ _ (and_left (is_kind k (rec t i)) _ (sym (kind-left k z) ∙ e)) in
      within t i w (λ x. omega arith)

  -- a step asks for none that is marked
  pub asked-stays : (step : Step) (named : List ℕ) → stepped step named (without gone t) i ≡ true → stays gone i ≡ true
  asked-stays Entries named e =
      and_right (is_kind 2 (rec t i)) _ (sym (kind-left 2 (omega arith)) ∙ and_left (is_kind 2 (rec (without gone t) i)) _ e)
  asked-stays Headings named e =
      and_right (is_kind 1 (rec t i)) _ (sym (kind-left 1 (omega arith)) ∙ and_left (is_kind 1 (rec (without gone t) i)) _ e)
  asked-stays Text named e =
      and_right (is_kind 3 (rec t i)) _ (sym (kind-left 3 (omega arith)) ∙ and_left (is_kind 3 (rec (without gone t) i)) _ e)

-- names counted: an entry that is left names what it named, and what is cleared names none
names-left : (gone t : List ℕ) (h i : ℕ) → i < rooms t → (names h (rec t i) && stays gone i) ≡ names h (rec (without gone t) i)
unfolding blank
names-left gone t h i l = rw (rec-without gone t i l) (go (stays gone i))
  where
    go : (b : Bool) → (names h (rec t i) && b) ≡ names h (cond (not b) blank (rec t i))
    go true = and-past-right (names h (rec t i)) true refl
    go false = and-no-right (names h (rec t i)) false refl

pub left-numbered : (gone t a : List ℕ) → sized t ≡ true → Numbered (cond (sized t) (namings_left gone t) (λ _. 0)) a
    → Numbered (namings (without gone t)) a
unfolding namings namings_left
left-numbered gone t a s x =
    numbered-same (namings_left gone t) (namings (without gone t)) a (rw s at x)
    (λ h l. rw (rooms-without gone t) (count-cong _ _ (rooms t) (λ i b. sym (names-left gone t h i b))))

-- .. or counted in the table without those that go, of the first 2,048 records, which are all
pub names-numbered : (gone t a : List ℕ) → sized t ≡ true
    → Numbered (λ h. count_below (λ i. names h (rec (without gone t) i)) (min (rooms t) 2048)) a → Numbered (namings (without gone t)) a
unfolding namings
names-numbered gone t a s x =
    let w = sized-whole t s in
    let e : min (rooms t) 2048 ≡ rooms (without gone t) = omega (arith, rooms-without gone t, w.1) in
    rw e at x

-- ---- a turn of a step

module _ (t gone order : List ℕ) (n i : ℕ) (f : Found t gone order n (ordered order n)) (b x : Bool) (e : b ≡ x) where
  pub turn_one : b ≡ true → Whole t → rooms t ≤ 2048 → i < rooms t → stays gone i ≡ true → (gone' order' : List ℕ) (m : ℕ) → gone' ≡ set gone i 1
      → order' ≡ set order n i → m ≡ n + 1 → Found t gone' order' m (ordered order n ++ cond x (clear i ∷ []) [])
  turn_one y w most l s gone' order' m p q r = rw (← e, y, p, q, r) (found-more t gone order n i (ordered order n) w most f l s)
