-- Records by number and by position. The free records are met one after the other, each written at the next place of a list.
-- A pass knows at each record the first text before it; a position that has one keeps it, so once each has one the pass may end.
use mathlib.Core.Bool.{Bool, true, false, ◌&&◌, cond, true≢false}
use mathlib.Core.List.{List}
use mathlib.Core.Logic.{◌≢◌, by_cases}
use mathlib.Core.Path.{◌≡◌, refl, sym, ap, ◌∙◌}
use Prim.Native.Nat.{ℕ, zero, suc, ◌+◌, ◌*◌, ◌-◌, ◌%◌, ◌≤◌, ◌<◌}
use native.Mathlib.Omega.{arith}
use native.Mathlib.Decide.{ℕ_discrete, dec_lt}
use native.Mathlib.Nat.{add-zero}
use native.Mathlib.Numerals.{add-one}
use lib.Dec.{eqb, leb}
use lib.ListN.{get_or, length, set, replicate, length-set, length-replicate, get_or-replicate}
use lib.Seq.{get_or-set_same, get_or-set_other, ext_get_or}
use borrow.Author.Tests.{eq-eqb, ne_eqb, leb-true, lt-ltb, le-ltb}
use Rattle.paper.specs.Scan.{Found, at, nowhere, or_else, first_below, count_below}
use Rattle.paper.specs.Record.{byte, is_kind, heading_of, position, text_at}
use Rattle.paper.specs.Table.{sized, rooms, rec, room, place, text_room}
use Rattle.laws.proofs.Tests.{and_both, and_left, and_right, and-no-right}
use Rattle.laws.proofs.Scans.{first-here, first-at}
use Rattle.laws.proofs.Counts.{count-cong, count-more-at, count-least}
use Rattle.laws.proofs.Lay.{byte-rec}
use Rattle.laws.proofs.Lists.{length-each, get_d-each}
use Rattle.effects.specs.Listed.{at_front, text_rooms, text_of, text_among, Placed}
use Rattle.scans.specs.Free.{next_free}
use Rattle.scans.proofs.Free.{first-room, walk-rooms}

-- ---- in order

-- numbers at the front of a list
module _ (f : ℕ → ℕ) (d n : ℕ) where
  pub front-here : (k m : ℕ) → m < k → m < n → get_or (at_front f k d n) m 0 ≡ f m
  front-here k m l b = get_d-each _ n m 0 b ∙ rw (lt-ltb m k l)

  front-past : (k m : ℕ) → k ≤ m → m < n → get_or (at_front f k d n) m 0 ≡ d
  front-past k m l b = get_d-each _ n m 0 b ∙ rw (le-ltb m k l)

  -- a list is known by its front and its rest
  pub front_by : (k : ℕ) (a : List ℕ) → length a ≡ n → ((m : ℕ) → m < k → m < n → get_or a m 0 ≡ f m) → ((m : ℕ) → k ≤ m → m < n → get_or a m 0 ≡ d)
      → a ≡ at_front f k d n
  front_by k a s h r =
      ext_get_or 0 a _ (s ∙ sym (length-each _ n))
      (λ m l.
      let b : m < n = omega arith in
      by_cases (dec_lt m k)
      (λ (x : m < k). h m x b ∙ sym (front-here k m x b))
      (λ (x : ¬ (m < k)). let y : k ≤ m = omega arith in r m y b ∙ sym (front-past k m y b)))

  pub front-start : replicate n d ≡ at_front f 0 d n
  front-start = front_by 0 (replicate n d) (length-replicate n d) (λ m l b. omega arith) (λ m l b. get_or-replicate n m d 0 b)

  -- one more
  pub front-more : (m v : ℕ) → m < n → v ≡ f m → set (at_front f m d n) m v ≡ at_front f (m + 1) d n
  front-more m v b e =
      let s : length (at_front f m d n) ≡ n = length-each _ n in
      front_by (m + 1) (set (at_front f m d n) m v) (rw length-set s)
      (λ j l c.
      by_cases (ℕ_discrete j m)
      (λ (x : j ≡ m). rw x (get_or-set_same (at_front f m d n) m v 0 (omega arith) ∙ e))
      (λ (x : j ≢ m). get_or-set_other (at_front f m d n) m j v 0 x ∙ front-here m j (omega arith) c))
      (λ j l c. get_or-set_other (at_front f m d n) m j v 0 (λ (x : j ≡ m). omega arith) ∙ front-past m j (omega arith) c)

  -- as many as there are places are all
  pub front-all : (k : ℕ) → at_front f (k - (k - n)) d n ≡ at_front f k d n
  front-all k =
      front_by k (at_front f (k - (k - n)) d n) (length-each _ n)
      (λ m l b. front-here (k - (k - n)) m (omega arith) b)
      (λ m l b. front-past (k - (k - n)) m (omega arith) b)

-- what is found is below the bound, and one past the last where nothing is
place-most : (t : List ℕ) (p : ℕ → Bool) → place t (first_below p (rooms t)) ≤ rooms t
place-most t p = go (first_below p (rooms t)) refl
  where
    go : (f : Found) → first_below p (rooms t) ≡ f → place t f ≤ rooms t
    go (at i) e = omega (arith, (first-at p (rooms t) i e).below)
    go nowhere e = omega arith

next-most : (t : List ℕ) (i : ℕ) → next_free t i ≤ rooms t
unfolding next_free
next-most t i = place-most t _

pub room_most : (t : List ℕ) (m : ℕ) → room t m ≤ rooms t
room_most t zero = rw (← (first-room t)) (next-most t 0)
room_most t (suc m) = rw (← (add-one m), ← (walk-rooms t m)) (next-most t (room t m + 1))

-- a table of fit size has at most 2,048 records
pub sized-most : (t : List ℕ) → sized t ≡ true → rooms t ≤ 2048
sized-most t e = let l : length t ≤ 65536 = leb-true (length t) 65536 (and_right (eqb (length t % 32) 0) (leb (length t) 65536) e) in omega arith

-- ---- by position

first_more : (q : ℕ → Bool) (n : ℕ) → first_below q (n + 1) ≡ or_else (first_below q n) (cond (q n) (at n) nowhere)
unfolding first_below
first_more q n = rw add-one

or-nowhere : (f : Found) → or_else f nowhere ≡ f
or-nowhere (at i) = refl
or-nowhere nowhere = refl

-- the text of heading h at position p among one record more
module _ (t : List ℕ) (h p i : ℕ) where
  abbrev here : ℕ → Bool
  here j = text_at h p (rec t j)

  among-off : text_at h p (rec t i) ≡ false → text_among t h p (i + 1) ≡ text_among t h p i
  among-off e =
      ap (place t) (first_more here i ∙ ap (λ (b : Bool). or_else (first_below here i) (cond b (at i) nowhere)) e ∙ or-nowhere (first_below here i))

  -- .. the one that is there stays
  among-had : (text_among t h p i ≡ rooms t → ⊥) → text_among t h p (i + 1) ≡ text_among t h p i
  among-had d = go (first_below here i) refl
    where
      go : (f : Found) → first_below here i ≡ f → text_among t h p (i + 1) ≡ text_among t h p i
      go (at j) e = ap (place t) (first_more here i ∙ ap (λ (f : Found). or_else f (cond (here i) (at i) nowhere)) e ∙ sym e)
      go nowhere e = absurd (d (ap (place t) e))

  among-new : i < rooms t → text_among t h p i ≡ rooms t → text_at h p (rec t i) ≡ true → text_among t h p (i + 1) ≡ i
  among-new l n x = go (first_below here i) refl
    where
      go : (f : Found) → first_below here i ≡ f → text_among t h p (i + 1) ≡ i
      go (at j) e =
          let y : j ≡ rooms t = sym (ap (place t) e) ∙ n in
          let z : ⊥ = omega (arith, (first-at here i j e).below) in
          absurd z
      go nowhere e =
          ap (place t)
          (first_more here i
          ∙ ap (λ (f : Found). or_else f (cond (here i) (at i) nowhere)) e
          ∙ ap (λ (b : Bool). cond b (at i) nowhere) x)

  -- .. and the one among the first records is the one of the table
  among-all : i ≤ rooms t → (text_among t h p i ≡ rooms t → ⊥) → text_among t h p i ≡ text_room t h p
  unfolding text_room
  among-all l d = go (first_below here i) refl
    where
      go : (f : Found) → first_below here i ≡ f → text_among t h p i ≡ place t (first_below here (rooms t))
      go (at j) e =
          let g = first-at here i j e in
          let m : j < rooms t = omega (arith, g.below) in
          ap (place t) (e ∙ sym (first-here here (rooms t) j m g.passes g.none))
      go nowhere e = absurd (d (ap (place t) e))

-- a record's kind is its first byte
pub kind-here : (t : List ℕ) (i : ℕ) → byte (rec t i) 0 ≡ get_or t (i * 32) 0
kind-here t i = byte-rec t i 0 (omega arith) ∙ rw add-zero

-- text of a heading, or not, by its kind and its heading
-- .. and not at the position p
text-none : (h p : ℕ) (r : List ℕ) → text_of h r ≡ false → text_at h p r ≡ false
text-none h p r e = go (is_kind 3 r) (eqb (heading_of r) h) (eqb (position r) p) e
  where
    go : (a b c : Bool) → (a && b) ≡ false → (a && (b && c)) ≡ false
    go true true c x = absurd (true≢false x)
    go true false c x = refl
    go false b c x = refl

text-other : (h p : ℕ) (r : List ℕ) → p ≢ position r → text_at h p r ≡ false
text-other h p r d =
    and-no-right (is_kind 3 r) _ (and-no-right (eqb (heading_of r) h) _ (ne_eqb (position r) p (λ (x : position r ≡ p). d (sym x))))

text-here : (h : ℕ) (r : List ℕ) → text_of h r ≡ true → text_at h (position r) r ≡ true
text-here h r e =
    and_both (is_kind 3 r) _ (and_left _ _ e)
    (and_both (eqb (heading_of r) h) _ (and_right (is_kind 3 r) _ e) (eq-eqb (position r) (position r) refl))

count-whole : (p : ℕ → Bool) (n : ℕ) → ((i : ℕ) → i < n → p i ≡ true) → count_below p n ≡ n
unfolding count_below
count-whole p zero h = refl
count-whole p (suc n) h = rw (h n (omega arith)) (omega (arith, count-whole p n (λ i l. h i (omega arith))))

-- among no record: nowhere
pub placed-start : (t : List ℕ) (h k v : ℕ) → v ≡ rooms t → k ≤ 1000 → Placed t h k (replicate 1000 v) k 0
unfolding first_below
placed-start t h k v e m =
    record {
      size = length-replicate 1000 v;
      holds = λ p l. get_or-replicate 1000 p v 0 (omega arith) ∙ e;
      rest = λ p l b. get_or-replicate 1000 p v 0 b ∙ e;
      left = sym (count-whole _ k (λ p l. eq-eqb (rooms t) (rooms t) refl));
    }

module _ (t : List ℕ) (h k : ℕ) (a : List ℕ) (n i : ℕ) (w : Placed t h k a n i) where
  -- a record that changes nothing
  same-places : ((p : ℕ) → p < k → text_among t h p (i + 1) ≡ text_among t h p i) → Placed t h k a n (i + 1)
  same-places e =
      record {
        size = w.size;
        holds = λ p l. w.holds p l ∙ sym (e p l);
        rest = w.rest;
        left = w.left ∙ count-cong _ _ k (λ p l. ap (λ (x : ℕ). eqb x (rooms t)) (sym (e p l)));
      }

  pub placed_off : text_of h (rec t i) ≡ false → Placed t h k a n (i + 1)
  placed_off x = same-places (λ p l. among-off t h p i (text-none h p (rec t i) x))

  pub placed_past : k ≤ position (rec t i) → Placed t h k a n (i + 1)
  placed_past m = same-places (λ p l. among-off t h p i (text-other h p (rec t i) (λ (e : p ≡ position (rec t i)). omega arith)))

  pub placed-had : (get_or a (position (rec t i)) 0 ≡ rooms t → ⊥) → Placed t h k a n (i + 1)
  placed-had d =
      same-places
      (λ p l.
      by_cases (ℕ_discrete p (position (rec t i)))
      (λ (q : p ≡ position (rec t i)).
      among-had t h p i (λ (x : text_among t h p i ≡ rooms t). d (ap (λ (j : ℕ). get_or a j 0) (sym q) ∙ w.holds p l ∙ x)))
      (λ (q : p ≢ position (rec t i)). among-off t h p i (text-other h p (rec t i) q)))

  -- a record that is put at its position
  module _ (v : ℕ) (e : v ≡ i) (l : i < rooms t) (few : k ≤ 1000) (x : text_of h (rec t i) ≡ true) (m : position (rec t i) < k)
      (none : get_or a (position (rec t i)) 0 ≡ rooms t) where
    was : text_among t h (position (rec t i)) i ≡ rooms t
    was = sym (w.holds (position (rec t i)) m) ∙ none

    is : text_among t h (position (rec t i)) (i + 1) ≡ i
    is = among-new t h (position (rec t i)) i l was (text-here h (rec t i) x)

    other : (p : ℕ) → p ≢ position (rec t i) → text_among t h p (i + 1) ≡ text_among t h p i
    other p q = among-off t h p i (text-other h p (rec t i) q)

    one_less : n ≡ count_below (λ p. eqb (text_among t h p (i + 1)) (rooms t)) k + 1
    one_less =
        w.left
        ∙ count-more-at _ _ k (position (rec t i)) m (ne_eqb _ _ (λ (z : text_among t h (position (rec t i)) (i + 1) ≡ rooms t). omega (arith, is)))
        (eq-eqb _ _ was) (λ p b q. ap (λ (y : ℕ). eqb y (rooms t)) (other p q))

    pub placed-some : 1 ≤ n
    placed-some = omega (arith, one_less)

    pub placed-new : Placed t h k (set a (position (rec t i)) v) (n - 1) (i + 1)
    placed-new =
        record {
          size = rw length-set w.size;
          holds = λ p b.
              by_cases (ℕ_discrete p (position (rec t i)))
              (λ (q : p ≡ position (rec t i)).
              rw q (get_or-set_same a (position (rec t i)) v 0 (omega (arith, w.size)) ∙ e ∙ sym is))
              (λ (q : p ≢ position (rec t i)).
              get_or-set_other a (position (rec t i)) p v 0 q ∙ w.holds p b ∙ sym (other p q));
          rest = λ p l b. get_or-set_other a (position (rec t i)) p v 0 (λ (q : p ≡ position (rec t i)). omega arith) ∙ w.rest p l b;
          left = omega (arith, one_less);
        }

  -- all of them
  placed-done : (m : ℕ) → k ≡ m - (m - 1000) → sized t ≡ true → ((p : ℕ) → p < k → text_among t h p i ≡ text_room t h p) → a ≡ text_rooms t h m
  placed-done m z fit e =
      let few : rooms t ≤ 2048 = sized-most t fit in
      rw (fit)
      (front_by _ _ 1000 m a w.size
      (λ p l b. let c : p < k = omega arith in w.holds p c ∙ e p c)
      (λ p l b. w.rest p (omega arith) b ∙ omega arith))

  pub placed-full : (m : ℕ) → k ≡ m - (m - 1000) → sized t ≡ true → i ≤ rooms t → n ≡ 0 → a ≡ text_rooms t h m
  placed-full m y fit b z =
      placed-done m y fit
      (λ p l.
      among-all t h p i b (λ (x : text_among t h p i ≡ rooms t).
      omega (arith, w.left, count-least (λ q. eqb (text_among t h q i) (rooms t)) k p l (eq-eqb _ _ x))))

  pub placed_end : (m : ℕ) → k ≡ m - (m - 1000) → sized t ≡ true → i ≡ rooms t → a ≡ text_rooms t h m
  unfolding text_room
  placed_end m y fit z = placed-done m y fit (λ p l. ap (λ (j : ℕ). text_among t h p j) z)

-- in a table of no fit size, none
pub placed-none : (t : List ℕ) (h k v : ℕ) → sized t ≡ false → v ≡ rooms t % 65536 → replicate 1000 v ≡ text_rooms t h k
placed-none t h k v e z = rw (e, z) (front-start _ _ 1000)
