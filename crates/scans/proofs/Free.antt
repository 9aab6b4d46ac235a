-- The free records in order, by how many stand before each: the next free record from i on is the first that has as many free
-- ones before it as i has. So a walk that goes on past each one meets the free records one after the other.
use mathlib.Core.Bool.{Bool, true, false, cond}
use mathlib.Core.List.{List, [], ◌∷◌, ◌++◌}
use mathlib.Core.Logic.{by_cases}
use mathlib.Core.Path.{◌≡◌, refl, sym, ap, ◌∙◌}
use Prim.Native.Nat.{ℕ, zero, suc, ◌+◌, ◌≤◌, ◌<◌}
use native.Mathlib.Omega.{arith}
use native.Mathlib.Decide.{dec_lt, dec_le}
use lib.Dec.{leb}
use lib.ListN.{length, get_or, get_or-append, get_or-eq_default}
use lib.Seq.{get_or_at}
use borrow.Author.Tests.{le-leb, lt-leb, leb-true}
use Rattle.paper.specs.Scan.{any_below, count_below, list_below, join_below}
use Rattle.paper.specs.Record.{is_kind}
use Rattle.paper.specs.Table.{rooms, rec, frees, room, place}
use Rattle.laws.proofs.Tests.{false-by, and_both, and_left, and_right, and-no-left}
use Rattle.laws.proofs.Scans.{any_none, first-here, first-none}
use Rattle.laws.proofs.Counts.{count-more, count-up}
use Rattle.laws.proofs.Lists.{length-list}
use Rattle.scans.specs.Free.{free_from, next_free}
use Rattle.scans.proofs.Turns.{any-shorter}

-- nothing below i is from i on
pub none_before : (t : List ℕ) (i : ℕ) → any_below (free_from t i) i ≡ false
none_before t i = any_none (free_from t i) i (λ j l. and-no-left (leb i j) (is_kind 0 (rec t j)) (lt-leb i j l))

pub next_here : (t : List ℕ) (i j : ℕ) → i ≤ j → j < rooms t → is_kind 0 (rec t j) ≡ true
    → any_below (free_from t i) j ≡ false → next_free t i ≡ j
unfolding next_free
next_here t i j h l e f =
    ap (place t) (first-here (free_from t i) (rooms t) j l (and_both (leb i j) (is_kind 0 (rec t j)) (le-leb i j h) e) f)

pub next-none : (t : List ℕ) (i j : ℕ) → rooms t ≤ j → any_below (free_from t i) j ≡ false → next_free t i ≡ rooms t
unfolding next_free
next-none t i j l f =
    ap (place t) (first-none (free_from t i) (rooms t) (any-shorter (free_from t i) (rooms t) j l f))

pub count-frees : (t : List ℕ) → length (frees t) ≡ count_below (λ i. is_kind 0 (rec t i)) (rooms t)
unfolding frees
count-frees t = length-list (λ i. is_kind 0 (rec t i)) (rooms t)

-- one that passes is counted past it
count_past : (p : ℕ → Bool) (j : ℕ) → p j ≡ true → count_below p (j + 1) ≡ count_below p j + 1
count_past p j e = rw (count-more, e)

-- item m of a list by a scan: below the bound, passing, with m that pass before it
pub record Item (p : ℕ → Bool) (n m i : ℕ) : Type 0 where
  pub below : i < n
  pub passes : p i ≡ true
  pub before : count_below p i ≡ m

pub list-item : (p : ℕ → Bool) (d n m : ℕ) → m < count_below p n → Item p n m (get_or (list_below p n) m d)
unfolding join_below count_below
list-item p d zero m l = let z : ⊥ = omega arith in absurd z
list-item p d (suc n) m l =
    by_cases (dec_lt m (count_below p n))
    (λ (h : m < count_below p n). older h (list-item p d n m h))
    (λ (h : ¬ (m < count_below p n)). newest (p n) refl h l)
  where
    older : m < count_below p n → Item p n m (get_or (list_below p n) m d) → Item p (suc n) m (get_or (list_below p (suc n)) m d)
    older h r =
        rw (get_or-append (list_below p n) (cond (p n) (n ∷ []) []) d m (rw length-list h))
        (record { below = omega (arith, r.below); passes = r.passes; before = r.before })

    newest : (b : Bool) → p n ≡ b → ¬ (m < count_below p n) → m < cond b (count_below p n + 1) (count_below p n)
        → Item p (suc n) m (get_or (list_below p n ++ cond b (n ∷ []) []) m d)
    newest true e h k =
        let q : length (list_below p n) ≡ m = omega (arith, length-list p n) in
        rw (get_or_at (list_below p n) n [] d m q) (record { below = omega arith; passes = e; before = omega arith })
    newest false e h k = absurd (h k)

abbrev free : List ℕ → ℕ → Bool
free t j = is_kind 0 (rec t j)

item_room : (t : List ℕ) (m : ℕ) → m < count_below (free t) (rooms t) → Item (free t) (rooms t) m (room t m)
unfolding frees
item_room t m h = list-item (free t) (rooms t) (rooms t) m h

room-past : (t : List ℕ) (m : ℕ) → count_below (free t) (rooms t) ≤ m → room t m ≡ rooms t
room-past t m h = get_or-eq_default (frees t) (rooms t) {n = m} (rw count-frees h)

-- no free record stands between i and j where none is counted
none_between : (t : List ℕ) (i j : ℕ) → count_below (free t) j ≤ count_below (free t) i → any_below (free_from t i) j ≡ false
none_between t i j h =
    any_none (free_from t i) j
    (λ k l. false-by (free_from t i k) (λ e. go k l (leb-true i k (and_left _ _ e)) (and_right (leb i k) _ e)))
  where
    go : (k : ℕ) → k < j → i ≤ k → free t k ≡ true → ⊥
    go k l m e =
        omega (arith, count_past (free t) k e, count-up (free t) (k + 1) j (omega arith), count-up (free t) i k m)

-- the next free record from i on is the one that has as many free ones before it as i has
pub next-room : (t : List ℕ) (i : ℕ) → next_free t i ≡ room t (count_below (λ j. is_kind 0 (rec t j)) i)
next-room t i =
    by_cases (dec_lt (count_below (free t) i) (count_below (free t) (rooms t)))
    (λ (h : count_below (free t) i < count_below (free t) (rooms t)). found (item_room t _ h))
    (λ (h : ¬ (count_below (free t) i < count_below (free t) (rooms t))). none (omega arith))
  where
    behind : {j : ℕ} → Item (free t) (rooms t) (count_below (free t) i) j → j + 1 ≤ i → ⊥
    behind {j} x h = omega (arith, count_past (free t) j x.passes, count-up (free t) (j + 1) i h, x.before)

    found : {j : ℕ} → Item (free t) (rooms t) (count_below (free t) i) j → next_free t i ≡ j
    found {j} x =
        next_here t i j (by_cases (dec_le i j) (λ (h : i ≤ j). h) (λ (h : ¬ (i ≤ j)). absurd (behind x (omega arith))))
        x.below x.passes (none_between t i j (omega (arith, x.before)))

    none : count_below (free t) (rooms t) ≤ count_below (free t) i → next_free t i ≡ room t (count_below (free t) i)
    none h =
        next-none t i (rooms t) (omega arith) (none_between t i (rooms t) h) ∙ sym (room-past t (count_below (free t) i) h)

pub first-room : (t : List ℕ) → next_free t 0 ≡ room t 0
unfolding count_below
first-room t = next-room t 0

-- .. so that going on past each one gives them all, and then one past the last
pub walk-rooms : (t : List ℕ) (m : ℕ) → next_free t (room t m + 1) ≡ room t (m + 1)
walk-rooms t m =
    next-room t (room t m + 1)
    ∙ by_cases (dec_lt m (count_below (free t) (rooms t)))
    (λ (h : m < count_below (free t) (rooms t)). inside (item_room t m h))
    (λ (h : ¬ (m < count_below (free t) (rooms t))). outside (omega arith))
  where
    inside : {j : ℕ} → Item (free t) (rooms t) m j → room t (count_below (free t) (j + 1)) ≡ room t (m + 1)
    inside {j} x = rw (count_past (free t) j x.passes, x.before)

    outside : count_below (free t) (rooms t) ≤ m → room t (count_below (free t) (room t m + 1)) ≡ room t (m + 1)
    outside h =
        rw (room-past t m h, room-past t (m + 1) (omega arith))
        (room-past t (count_below (free t) (rooms t + 1)) (count-up (free t) (rooms t) (rooms t + 1) (omega arith)))
