-- An entry laid in a record that is free or an entry: no heading and no text changes, so what entries and text point to stays.
-- The new entry points to what is there, its name is borne by no other, and only what the old entry alone named is left unnamed.
use mathlib.Core.Bool.{true, false}
use mathlib.Core.List.{List}
use mathlib.Core.Logic.{◌⊎◌, inl, inr, ◌≢◌, by_cases}
use mathlib.Core.Path.{◌≡◌, sym, ap, ◌∙◌, subst}
use Prim.Native.Nat.{ℕ, ◌≤◌, ◌<◌}
use native.Mathlib.Omega.{arith}
use native.Mathlib.Decide.{ℕ_discrete}
use lib.ListN.{length}
use Rattle.paper.specs.Scan.{nowhere, count_below}
use Rattle.paper.specs.Record.{byte, heading_type, text_length, heading_named, heading_of, text_at, names}
use Rattle.paper.specs.Layout.{name_of, boxed}
use Rattle.paper.specs.Table.{rooms, rec, lay}
use Rattle.paper.specs.Entry.{Holder, holder, stands, bears, find, crowd, limit, named}
use Rattle.paper.specs.Block.{blocks}
use Rattle.paper.specs.Sound.{holder_there, text_in_place}
use Rattle.laws.proofs.Tests.{truth, not-both, false-by}
use Rattle.laws.proofs.Scans.{any-true, any_here, any_false, first-nowhere}
use Rattle.laws.proofs.Counts.{count-cong, count-more-at}
use Rattle.laws.proofs.Entries.{Stands, stands-true, stands-holder, bears-stands, bears-both, bears-back, names-kind, names-heading, names-by, text-true}
use Rattle.laws.proofs.Lay.{lay-same, lay-other, rooms-lay, length-lay, within}
use Rattle.demands.proofs.Sound.Clauses.{Own, SoundBut, Sound}
use Rattle.demands.proofs.Sound.Points.{holder-stays, text-points}

-- entry r by itself fits into t
pub record Fits (o : ℕ) (t r : List ℕ) : Type 0 where
  pub size : length r ≡ 32
  pub kind : byte r 0 ≡ 2
  pub own : Own r
  pub held : holder_there t 0 r ≡ true
  pub target : byte (rec t (heading_named r)) 0 ≡ 1
  pub new : (o ≡ heading_named r) ⊎ (o ≡ 65535)

-- it may be laid at e, where o is the heading that no entry need name before, and o' the one after
pub record Placing (o o' : ℕ) (t : List ℕ) (e : ℕ) (r : List ℕ) : Type 0 where
  pub fits : Fits o t r
  pub inside : e < rooms t
  pub before : (byte (rec t e) 0 ≡ 0) ⊎ (byte (rec t e) 0 ≡ 2)
  pub alone : (j : ℕ) → j < rooms t → j ≢ e → bears boxed (holder r) (name_of boxed r) (rec t j) ≡ true → ⊥
  pub roomy : (d : Holder) → crowd (lay t e r) d ≤ limit d
  pub left : (h : ℕ) → names h (rec t e) ≡ true → h ≡ o'

module _ (o o' : ℕ) (t : List ℕ) (e : ℕ) (r : List ℕ) (c : SoundBut o t) (p : Placing o o' t e r) where
  abbrev f : List ℕ
  f = lay t e r

  here : rec f e ≡ r
  here = lay-same t e r p.fits.size p.inside

  other : (i : ℕ) → i < rooms t → i ≢ e → rec f i ≡ rec t i
  other i l d = lay-other t e r i p.fits.size d l

  -- what is neither free nor an entry stays
  stays : (i : ℕ) → byte (rec t i) 0 ≢ 0 → byte (rec t i) 0 ≢ 2 → rec f i ≡ rec t i
  stays i a b = other i (within t i c.whole a) (λ q. go q p.before)
    where
      go : i ≡ e → (byte (rec t e) 0 ≡ 0) ⊎ (byte (rec t e) 0 ≡ 2) → ⊥
      go q (inl z) = a (rw q z)
      go q (inr z) = b (rw q z)

  -- a record of f is the entry, or as it was
  at_entry : {A : Type 0} (i : ℕ) → i < rooms t → (i ≡ e → rec f i ≡ r → A) → (i ≢ e → rec f i ≡ rec t i → A) → A
  at_entry i l x y = by_cases (ℕ_discrete i e) (λ (q : i ≡ e). x q (rw q here)) (λ (q : i ≢ e). y q (other i l q))

  -- a record of f that is no entry is as it was
  no-entry : (i k : ℕ) → i < rooms t → k ≢ 2 → byte (rec f i) 0 ≡ k → rec f i ≡ rec t i
  no-entry i k l d b = at_entry i l (λ _ q. absurd (d (sym b ∙ ap (λ (x : List ℕ). byte x 0) q ∙ p.fits.kind))) (λ _ q. q)

  placed-own : (i : ℕ) → i < rooms t → Own (rec f i)
  placed-own i l = at_entry i l (λ _ q. rw q p.fits.own) (λ _ q. rw q (c.own i l))

  heading-stays : (h : ℕ) → byte (rec t h) 0 ≡ 1 → rec f h ≡ rec t h
  heading-stays h k = stays h (omega arith) (omega arith)

  there : (i : ℕ) (s : List ℕ) → holder_there t i s ≡ true → holder_there f i s ≡ true
  there = holder-stays t f heading-stays

  placed-holders : (i : ℕ) → i < rooms t → byte (rec f i) 0 ≡ 2 → holder_there f i (rec f i) ≡ true
  placed-holders i l k =
      at_entry i l (λ _ q. rw q (there i r p.fits.held)) (λ _ q. rw q (there i (rec t i) (c.holders i l (rw q at k))))

  target-stays : (h : ℕ) → byte (rec t h) 0 ≡ 1 → byte (rec f h) 0 ≡ 1
  target-stays h k = rw (heading-stays h k) k

  placed-targets : (i : ℕ) → i < rooms t → byte (rec f i) 0 ≡ 2 → byte (rec f (heading_named (rec f i))) 0 ≡ 1
  placed-targets i l k =
      at_entry i l (λ _ q. rw q (target-stays _ p.fits.target)) (λ _ q. rw q (target-stays _ (c.targets i l (rw q at k))))

  placed-apart : (i j : ℕ) → i < rooms t → j < rooms t → byte (rec f i) 0 ≡ 2 → bears boxed (holder (rec f i)) (name_of boxed (rec f i)) (rec f j) ≡ true → i ≡ j
  placed-apart i j l m k b =
      at_entry i l
      (λ x q. at_entry j m (λ y _. x ∙ sym y) (λ y s. absurd (p.alone j m y (rw (q, s) at b))))
      (λ x q. at_entry j m
      (λ y s. absurd (p.alone i l x (bears-back (rec t i) r (rw q at k) (rw (q, s) at b))))
      (λ y s. c.apart i j l m (rw q at k) (rw (q, s) at b)))

  placed-named : (i : ℕ) → i < rooms t → byte (rec f i) 0 ≡ 1 → (named f i ≡ true) ⊎ (i ≡ o')
  unfolding named
  placed-named i l k =
      by_cases (ℕ_discrete (heading_named r) i)
      (λ (q : heading_named r ≡ i). inl (any_here (λ j. names i (rec f j)) (rooms f) e (rw rooms-lay p.inside) (rw here (names-by i r p.fits.kind q))))
      (λ (q : heading_named r ≢ i). go q (c.named i l (rw (no-entry i 1 l (omega arith) k) at k)))
    where
      one : (j : ℕ) → j < rooms t → names i (rec t j) ≡ true → (named f i ≡ true) ⊎ (i ≡ o')
      one j m x =
          at_entry j m (λ y _. inr (p.left i (rw y at x)))
          (λ y s. inl (any_here (λ j. names i (rec f j)) (rooms f) j (rw rooms-lay m) (rw s x)))

      unnamed : heading_named r ≢ i → i ≡ o → (o ≡ heading_named r) ⊎ (o ≡ 65535) → ⊥
      unnamed q x (inl y) = q (sym (x ∙ y))
      unnamed q x (inr y) = omega (arith, c.few)

      go : heading_named r ≢ i → (named t i ≡ true) ⊎ (i ≡ o) → (named f i ≡ true) ⊎ (i ≡ o')
      go q (inl x) = let w = any-true (λ j. names i (rec t j)) (rooms t) x in one w.0 w.1 w.2
      go q (inr x) = absurd (unnamed q x p.fits.new)

  same_text : (h q i : ℕ) → i < rooms t → text_at h q (rec f i) ≡ text_at h q (rec t i)
  same_text h q i l = at_entry i l (λ x s. rw (s, x, none r p.fits.kind) (sym (none_before p.before))) (λ _ s. rw s)
    where
      none : (s : List ℕ) → byte s 0 ≡ 2 → text_at h q s ≡ false
      none s k = false-by _ (λ x. let z : byte s 0 ≡ 3 = (text-true h q s x).kind in omega arith)

      none_before : (byte (rec t e) 0 ≡ 0) ⊎ (byte (rec t e) 0 ≡ 2) → text_at h q (rec t e) ≡ false
      none_before (inl k) = false-by _ (λ x. let z : byte (rec t e) 0 ≡ 3 = (text-true h q (rec t e) x).kind in omega arith)
      none_before (inr k) = none (rec t e) k

  placed-once : (h q : ℕ) → h < rooms t → byte (rec f h) 0 ≡ 1 → heading_type (rec f h) ≡ 1 → q < blocks (text_length (rec f h))
      → count_below (λ i. text_at h q (rec f i)) (rooms f) ≡ 1
  placed-once h q l k s b =
      let z : rec f h ≡ rec t h = no-entry h 1 l (omega arith) k in
      rw rooms-lay (count-cong _ (λ i. text_at h q (rec t i)) (rooms t) (same_text h q) ∙ c.once h q l (rw z at k) (rw z at s) (rw z at b))

  placed-texts : (i : ℕ) → i < rooms t → byte (rec f i) 0 ≡ 3 → text_in_place f i (rec f i) ≡ true
  placed-texts i l k =
      let z : rec f i ≡ rec t i = no-entry i 3 l (omega arith) k in
      let b : byte (rec t i) 0 ≡ 3 = rw z at k in
      rw (z, heading-stays (heading_of (rec t i)) (text-points o t c i l b)) (c.texts i l b)

  pub placed : SoundBut o' (lay t e r)
  placed =
      let m : rooms f ≡ rooms t = rooms-lay t e r in
      record {
        whole = rw length-lay c.whole;
        few = rw m c.few;
        own = λ i l. placed-own i (rw m at l);
        holders = λ i l. placed-holders i (rw m at l);
        targets = λ i l. placed-targets i (rw m at l);
        apart = λ i j l k. placed-apart i j (rw m at l) (rw m at k);
        named = λ i l. placed-named i (rw m at l);
        crowds = p.roomy;
        once = λ h q l. placed-once h q (rw m at l);
        texts = λ i l. placed-texts i (rw m at l);
      }

-- ---- the two ways of placing an entry

-- in a free record: its holder, and no other, has one entry more
module _ (t : List ℕ) (e : ℕ) (r : List ℕ) (l : e < rooms t) (s : length r ≡ 32) (k : byte (rec t e) 0 ≡ 0) where
  pub crowd-free : crowd t (holder r) < limit (holder r) → ((d : Holder) → crowd t d ≤ limit d) → (d : Holder) → crowd (lay t e r) d ≤ limit d
  unfolding crowd
  crowd-free m b d = rw rooms-lay (go (truth (stands d r)))
    where
      none : stands d (rec t e) ≡ false
      none = false-by _ (λ x. let z : byte (rec t e) 0 ≡ 2 = (stands-true d (rec t e) x).kind in omega arith)

      elsewhere : (i : ℕ) → i < rooms t → i ≢ e → stands d (rec t i) ≡ stands d (rec (lay t e r) i)
      elsewhere i c q = rw (lay-other t e r i s q c)

      here : stands d (rec (lay t e r) e) ≡ stands d r
      here = rw (lay-same t e r s l)

      go : (stands d r ≡ true) ⊎ (stands d r ≡ false) → count_below (λ i. stands d (rec (lay t e r) i)) (rooms t) ≤ limit d
      go (inl x) =
          let h : crowd t d < limit d = subst (λ (z : Holder). crowd t z < limit z) (stands-holder d r (stands-true d r x)) m in
          rw (count-more-at (λ i. stands d (rec t i)) (λ i. stands d (rec (lay t e r) i)) (rooms t) e l none (here ∙ x) elsewhere) (omega arith)
      go (inr x) =
          rw (count-cong (λ i. stands d (rec (lay t e r) i)) (λ i. stands d (rec t i)) (rooms t)
          (λ i c. by_cases (ℕ_discrete i e) (λ (q : i ≡ e). rw q (here ∙ x ∙ sym none)) (λ (q : i ≢ e). sym (elsewhere i c q))))
          (b d)

-- over an entry of the same holder and name: every holder has as many
stands_alike : (d : Holder) (r s : List ℕ) → byte r 0 ≡ 2 → Stands (holder r) s → stands d r ≡ stands d s
unfolding stands
stands_alike d r s k a = rw (k, a.kind, a.heading, a.user)

pub crowd-over : (t : List ℕ) (e : ℕ) (r : List ℕ) (d : Holder) → e < rooms t → length r ≡ 32 → byte r 0 ≡ 2 → Stands (holder r) (rec t e)
    → crowd (lay t e r) d ≡ crowd t d
unfolding crowd
crowd-over t e r d l s k a =
    rw rooms-lay
    (count-cong _ (λ i. stands d (rec t i)) (rooms t)
    (λ i c. by_cases (ℕ_discrete i e)
    (λ (q : i ≡ e). rw (q, lay-same t e r s l) (stands_alike d r (rec t e) k a))
    (λ (q : i ≢ e). rw (lay-other t e r i s q c))))

-- a new entry in a free record: the table is sound
pub placed-free : (o : ℕ) (t : List ℕ) (e : ℕ) (r : List ℕ) → SoundBut o t → Fits o t r → e < rooms t → byte (rec t e) 0 ≡ 0
    → find boxed t (holder r) (name_of boxed r) ≡ nowhere → crowd t (holder r) < limit (holder r) → Sound (lay t e r)
unfolding find
placed-free o t e r c x l k f m =
    placed o 65535 t e r c (record {
      fits = x;
      inside = l;
      before = inl k;
      alone = λ j b _ y. not-both y (any_false (λ i. bears boxed (holder r) (name_of boxed r) (rec t i)) (rooms t) j b (first-nowhere _ (rooms t) f));
      roomy = crowd-free t e r l x.size k m c.crowds;
      left = λ h y. let z : byte (rec t e) 0 ≡ 2 = names-kind h (rec t e) y in let w : ⊥ = omega arith in absurd w;
    })

-- an entry overwritten by one of its name: the table is sound, but for the file that it named
pub placed-over : (o : ℕ) (t : List ℕ) (e : ℕ) (r : List ℕ) → SoundBut o t → Fits o t r → e < rooms t
    → bears boxed (holder r) (name_of boxed r) (rec t e) ≡ true → SoundBut (heading_named (rec t e)) (lay t e r)
placed-over o t e r c x l b =
    let a : Stands (holder r) (rec t e) = bears-stands (holder r) (name_of boxed r) (rec t e) b in
    placed o (heading_named (rec t e)) t e r c (record {
      fits = x;
      inside = l;
      before = inr a.kind;
      alone = λ j m d y. d (sym (c.apart e j l m a.kind (bears-both (holder r) (name_of boxed r) (rec t e) (rec t j) b y)));
      roomy = λ d. rw (crowd-over t e r d l x.size x.kind a) (c.crowds d);
      left = λ h y. sym (names-heading h (rec t e) y);
    })
