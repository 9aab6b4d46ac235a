-- The listing is strictly ascending and has every entry exactly once: an entry is put before the first whose name is not before its own.
-- `before` is a strict total order, and where no name stands twice two names that are neither before the other are one entry's.
use mathlib.Core.Bool.{Bool, true, false, ◌&&◌, ◌||◌, cond, true≢false}
use mathlib.Core.List.{List, [], ◌∷◌, ◌++◌, append-nil}
use mathlib.Core.Logic.{◌⊎◌, inl, inr, ◌≢◌, by_cases}
use mathlib.Core.Path.{◌≡◌, refl, sym, ap₂, ◌∙◌}
use Prim.Native.Nat.{ℕ, zero, suc, ◌+◌, ◌≤◌, ◌<◌}
use native.Mathlib.Omega.{arith}
use native.Mathlib.Nat.{add-zero, zero-add}
use native.Mathlib.Decide.{ℕ_discrete, dec_lt}
use lib.ListN.{length}
use lib.Dec.{eqb, ltb}
use borrow.Author.Tests.{ltb-true, ltb-false, lt-ltb, le-ltb, eqb-true, eq-eqb, ne_eqb}
use Rattle.paper.specs.Scan.{join_below, list_below}
use Rattle.paper.specs.Layout.{name_of, boxed}
use Rattle.paper.specs.Table.{rooms, rec}
use Rattle.paper.specs.Name.{before}
use Rattle.paper.specs.Listing.{insert, in_order, listed}
use Rattle.laws.proofs.Tests.{true-by, and_left, and_right, and_both, and-no-right, or_cases, or_left, or_right, or-none, or-no-left, or-no-right}
use Rattle.laws.proofs.Lists.{Every, every_append, every-imp, every-below, length-list}
use Rattle.laws.proofs.Counts.{count_most}

-- ---- the order of names

before-cases : (a b : ℕ) (s t : List ℕ) → before (a ∷ s) (b ∷ t) ≡ true → (a < b) ⊎ ((a ≡ b) × (before s t ≡ true))
unfolding before
before-cases a b s t e = go (or_cases (ltb a b) (eqb a b && before s t) e)
  where
    go : (ltb a b ≡ true) ⊎ ((eqb a b && before s t) ≡ true) → (a < b) ⊎ ((a ≡ b) × (before s t ≡ true))
    go (inl f) = inl (ltb-true a b f)
    go (inr f) = inr (eqb-true a b (and_left _ _ f), and_right (eqb a b) _ f)

before-less : (a b : ℕ) (s t : List ℕ) → a < b → before (a ∷ s) (b ∷ t) ≡ true
unfolding before
before-less a b s t l = or_left (ltb a b) _ (lt-ltb a b l)

before_same : (a b : ℕ) (s t : List ℕ) → a ≡ b → before s t ≡ true → before (a ∷ s) (b ∷ t) ≡ true
unfolding before
before_same a b s t e f = or_right (ltb a b) _ (and_both (eqb a b) _ (eq-eqb a b e) f)

-- no name is before itself
pub before-irreflexive : (a : List ℕ) → before a a ≡ false
unfolding before
before-irreflexive [] = refl
before-irreflexive (a ∷ s) = or-none (ltb a a) _ (le-ltb a a (omega arith)) (and-no-right (eqb a a) _ (before-irreflexive s))

pub before-transitive : (a b c : List ℕ) → before a b ≡ true → before b c ≡ true → before a c ≡ true
unfolding before
before-transitive [] [] c p q = absurd (true≢false (sym p))
before-transitive [] (y ∷ b) [] p q = absurd (true≢false (sym q))
before-transitive [] (y ∷ b) (z ∷ c) p q = refl
before-transitive (x ∷ a) [] c p q = absurd (true≢false (sym p))
before-transitive (x ∷ a) (y ∷ b) [] p q = absurd (true≢false (sym q))
before-transitive (x ∷ a) (y ∷ b) (z ∷ c) p q = go (before-cases x y a b p) (before-cases y z b c q) (before-transitive a b c)
  where
    go : (x < y) ⊎ ((x ≡ y) × (before a b ≡ true)) → (y < z) ⊎ ((y ≡ z) × (before b c ≡ true)) → (before a b ≡ true → before b c ≡ true → before a c ≡ true)
        → before (x ∷ a) (z ∷ c) ≡ true
    go (inl l) (inl m) r = before-less x z a c (omega arith)
    go (inl l) (inr m) r = before-less x z a c (omega (arith, m.0))
    go (inr l) (inl m) r = before-less x z a c (omega (arith, l.0))
    go (inr l) (inr m) r = before_same x z a c (l.0 ∙ m.0) (r l.1 m.1)

-- two names that are neither before the other are the same
pub before-total : (a b : List ℕ) → before a b ≡ false → before b a ≡ false → a ≡ b
unfolding before
before-total [] [] p q = refl
before-total [] (y ∷ b) p q = absurd (true≢false p)
before-total (x ∷ a) [] p q = absurd (true≢false q)
before-total (x ∷ a) (y ∷ b) p q =
    let l = ltb-false x y (or-no-left (ltb x y) _ p) in
    let m = ltb-false y x (or-no-left (ltb y x) _ q) in
    let e : x ≡ y = omega arith in
    ap₂ ◌∷◌ e (before-total a b (rest x y a b e p) (rest y x b a (sym e) q))
  where
    rest : (x y : ℕ) (a b : List ℕ) → x ≡ y → (ltb x y || eqb x y && before a b) ≡ false → before a b ≡ false
    rest x y a b e f = rw (eq-eqb x y e) at (or-no-right (ltb x y) (eqb x y && before a b) f)

-- ---- lists in order

-- each item stands so to every later one
abbrev pub Pairs : (ℕ → ℕ → Type 0) → List ℕ → Type 0
Pairs R [] = Unit {0}
Pairs R (i ∷ is) = Every (R i) is × Pairs R is

pairs-last : (R : ℕ → ℕ → Type 0) (is : List ℕ) (n : ℕ) → Pairs R is → Every (λ i. R i n) is → Pairs R (is ++ n ∷ [])
pairs-last R [] n h k = (tt, tt)
pairs-last R (i ∷ is) n h k = (every_append (R i) is (n ∷ []) h.0 (k.0, tt), pairs-last R is n h.1 k.1)

-- what holds of two items that pass
pub pairs-imp : (P : ℕ → Type 0) (R S : ℕ → ℕ → Type 0) (is : List ℕ) → ((i j : ℕ) → P i → P j → R i j → S i j) → Every P is → Pairs R is → Pairs S is
pairs-imp P R S [] f p h = tt
pairs-imp P R S (i ∷ is) f p h = (each is p.1 h.0, pairs-imp P R S is f p.1 h.1)
  where
    each : (js : List ℕ) → Every P js → Every (R i) js → Every (S i) js
    each [] q k = tt
    each (j ∷ js) q k = (f i j p.0 q.0 k.0, each js q.1 k.1)

-- a scan lists its numbers in ascending order
pub pairs_below : (p : ℕ → Bool) (n : ℕ) → Pairs ◌<◌ (list_below p n)
unfolding join_below
pairs_below p zero = tt
pairs_below p (suc n) = go (p n) (pairs_below p n)
  where
    go : (b : Bool) → Pairs ◌<◌ (list_below p n) → Pairs ◌<◌ (list_below p n ++ cond b (n ∷ []) [])
    go true h = pairs-last ◌<◌ (list_below p n) n h (every-imp _ (λ i. i < n) (list_below p n) (λ i k. k.0) (every-below p n))
    go false h = rw append-nil h

-- ---- putting an entry in its place

module _ (t : List ℕ) where
  -- the name of entry i is before that of entry j
  abbrev pub Ahead : ℕ → ℕ → Type 0
  Ahead i j = before (name_of boxed (rec t i)) (name_of boxed (rec t j)) ≡ true

  -- the two bear different names
  abbrev pub Unlike : ℕ → ℕ → Type 0
  Unlike i j = name_of boxed (rec t i) ≡ name_of boxed (rec t j) → ⊥

  every-insert : (P : ℕ → Type 0) (e : ℕ) (is : List ℕ) → P e → Every P is → Every P (insert boxed t e is)
  unfolding insert
  every-insert P e [] p h = (p, tt)
  every-insert P e (i ∷ is) p h = go (before (name_of boxed (rec t e)) (name_of boxed (rec t i))) (every-insert P e is p h.1)
    where
      go : (b : Bool) → Every P (insert boxed t e is) → Every P (cond b (e ∷ i ∷ is) (i ∷ insert boxed t e is))
      go true r = (p, h)
      go false r = (h.0, r)

  pub every-order : (P : ℕ → Type 0) (es : List ℕ) → Every P es → Every P (in_order boxed t es)
  unfolding in_order
  every-order P [] h = tt
  every-order P (e ∷ es) h = every-insert P e (in_order boxed t es) h.0 (every-order P es h.1)

  insert-ahead : (e : ℕ) (is : List ℕ) → Every (Unlike e) is → Pairs Ahead is → Pairs Ahead (insert boxed t e is)
  unfolding insert
  insert-ahead e [] u h = (tt, tt)
  insert-ahead e (i ∷ is) u h = go (before (name_of boxed (rec t e)) (name_of boxed (rec t i))) refl (insert-ahead e is u.1 h.1)
    where
      go : (b : Bool) → before (name_of boxed (rec t e)) (name_of boxed (rec t i)) ≡ b → Pairs Ahead (insert boxed t e is)
          → Pairs Ahead (cond b (e ∷ i ∷ is) (i ∷ insert boxed t e is))
      go true q r = ((q, every-imp (Ahead i) (Ahead e) is (λ j k. before-transitive _ _ _ q k) h.0), h)
      go false q r = (
        every-insert (Ahead i) e is
            (true-by (before (name_of boxed (rec t i)) (name_of boxed (rec t e))) (λ k. u.0 (before-total _ _ q k))) h.0,
        r,
      )

  pub order-ahead : (es : List ℕ) → Pairs Unlike es → Pairs Ahead (in_order boxed t es)
  unfolding in_order
  order-ahead [] h = tt
  order-ahead (e ∷ es) h = insert-ahead e (in_order boxed t es) (every-order (Unlike e) es h.0) (order-ahead es h.1)

-- ---- how often an entry stands in a list

unfoldable pub times : ℕ → List ℕ → ℕ
times i [] = 0
times i (j ∷ js) = cond (eqb i j) (times i js + 1) (times i js)

times-append : (i : ℕ) (xs ys : List ℕ) → times i (xs ++ ys) ≡ times i xs + times i ys
unfolding times
times-append i [] ys = omega arith
times-append i (x ∷ xs) ys = go (eqb i x) (times-append i xs ys)
  where
    go : (b : Bool) → times i (xs ++ ys) ≡ times i xs + times i ys
        → cond b (times i (xs ++ ys) + 1) (times i (xs ++ ys)) ≡ cond b (times i xs + 1) (times i xs) + times i ys
    go true e = omega arith
    go false e = e

-- two items change places
times-swap : (i e j : ℕ) (js : List ℕ) → times i (e ∷ j ∷ js) ≡ times i (j ∷ e ∷ js)
unfolding times
times-swap i e j js = go (eqb i e) (eqb i j)
  where
    n : ℕ
    n = times i js

    go : (a b : Bool) → cond a (cond b (n + 1) n + 1) (cond b (n + 1) n) ≡ cond b (cond a (n + 1) n + 1) (cond a (n + 1) n)
    go true true = refl
    go true false = refl
    go false true = refl
    go false false = refl

times-insert : (t : List ℕ) (i e : ℕ) (js : List ℕ) → times i (insert boxed t e js) ≡ times i (e ∷ js)
unfolding insert
times-insert t i e [] = refl
times-insert t i e (j ∷ js) = go (before (name_of boxed (rec t e)) (name_of boxed (rec t j))) (times-insert t i e js)
  where
    later : times i (insert boxed t e js) ≡ times i (e ∷ js) → times i (j ∷ insert boxed t e js) ≡ times i (j ∷ e ∷ js)
    later r = unfold times in rw r

    go : (b : Bool) → times i (insert boxed t e js) ≡ times i (e ∷ js) → times i (cond b (e ∷ j ∷ js) (j ∷ insert boxed t e js)) ≡ times i (e ∷ j ∷ js)
    go true r = refl
    go false r = later r ∙ sym (times-swap i e j js)

pub times-order : (t : List ℕ) (i : ℕ) (es : List ℕ) → times i (in_order boxed t es) ≡ times i es
unfolding in_order times
times-order t i [] = refl
times-order t i (e ∷ es) = times-insert t i e (in_order boxed t es) ∙ rw (times-order t i es)

-- an item that stands in a list has what every item has
pub times-every : (P : ℕ → Type 0) (i : ℕ) (js : List ℕ) → Every P js → 0 < times i js → P i
unfolding times
times-every P i [] h l = let z : ⊥ = omega arith in absurd z
times-every P i (j ∷ js) h l =
    by_cases (ℕ_discrete i j)
    (λ (e : i ≡ j). rw e h.0)
    (λ (e : i ≢ j). times-every P i js h.1 (rw (ne_eqb i j e) at l))

pub times-here : (i : ℕ) (js : List ℕ) → times i (i ∷ js) ≡ times i js + 1
unfolding times
times-here i js = rw (eq-eqb i i refl)

pub times-there : (i j : ℕ) (js : List ℕ) → i ≢ j → times i (j ∷ js) ≡ times i js
unfolding times
times-there i j js e = rw (ne_eqb i j e)

-- an item of a scan
times-same : (i n : ℕ) (b : Bool) → i ≡ n → times i (cond b (n ∷ []) []) ≡ cond b 1 0
unfolding times
times-same i n true e = rw (eq-eqb i n e)
times-same i n false e = refl

times-other : (i n : ℕ) (b : Bool) → i ≢ n → times i (cond b (n ∷ []) []) ≡ 0
unfolding times
times-other i n true e = rw (ne_eqb i n e)
times-other i n false e = refl

-- a scan lists what passes once
pub times_below : (p : ℕ → Bool) (i n : ℕ) → times i (list_below p n) ≡ cond (ltb i n && p i) 1 0
unfolding join_below times
times_below p i zero = rw (le-ltb i 0 (omega arith))
times_below p i (suc n) =
    times-append i (list_below p n) (cond (p n) (n ∷ []) []) ∙ rw (times_below p i n)
    (by_cases (ℕ_discrete i n) (λ (e : i ≡ n). newest e) (λ (e : i ≢ n). other e))
  where
    newest : i ≡ n → cond (ltb i n && p i) 1 0 + times i (cond (p n) (n ∷ []) []) ≡ cond (ltb i (suc n) && p i) 1 0
    newest e = rw (times-same i n (p n) e, le-ltb i n (omega arith), lt-ltb i (suc n) (omega arith), e) (zero-add _)

    other : i ≢ n → cond (ltb i n && p i) 1 0 + times i (cond (p n) (n ∷ []) []) ≡ cond (ltb i (suc n) && p i) 1 0
    other e =
        rw (times-other i n (p n) e, add-zero)
        (by_cases (dec_lt i n)
        (λ (l : i < n). rw (lt-ltb i n l, lt-ltb i (suc n) (omega arith)))
        (λ (l : ¬ (i < n)). rw (le-ltb i n (omega arith), le-ltb i (suc n) (omega arith))))

-- as many are in order as there were
length-insert : (t : List ℕ) (e : ℕ) (is : List ℕ) → length (insert boxed t e is) ≡ length is + 1
unfolding insert
length-insert t e [] = refl
length-insert t e (i ∷ is) = go (before (name_of boxed (rec t e)) (name_of boxed (rec t i))) (length-insert t e is)
  where
    go : (b : Bool) → length (insert boxed t e is) ≡ length is + 1 → length (cond b (e ∷ i ∷ is) (i ∷ insert boxed t e is)) ≡ length (i ∷ is) + 1
    go true r = omega arith
    go false r = omega arith

pub length-in_order : (t es : List ℕ) → length (in_order boxed t es) ≡ length es
unfolding in_order
length-in_order t [] = refl
length-in_order t (e ∷ es) = length-insert t e (in_order boxed t es) ∙ omega (arith, length-in_order t es)

-- ---- the listing

-- its names ascend, and each record that passes stands in it once, and no other
pub record Listing (t : List ℕ) (test : List ℕ → Bool) (es : List ℕ) : Type 0 where
  pub ascending : Pairs (Ahead t) es
  pub once : (i : ℕ) → times i es ≡ cond (ltb i (rooms t) && test (rec t i)) 1 0

-- no two records that pass bear one name
abbrev pub Apart : List ℕ → (List ℕ → Bool) → Type 0
Apart t test =
    (i j : ℕ) → i < rooms t → j < rooms t → test (rec t i) ≡ true → test (rec t j) ≡ true → name_of boxed (rec t i) ≡ name_of boxed (rec t j)
    → i ≡ j

-- where none do, the listing is one
pub listing : (t : List ℕ) (test : List ℕ → Bool) → Apart t test → Listing t test (listed boxed t test)
unfolding listed
listing t test a =
    record {
      ascending =
          order-ahead t (list_below (λ i. test (rec t i)) (rooms t))
          (pairs-imp (λ i. (i < rooms t) × (test (rec t i) ≡ true)) ◌<◌ (Unlike t) (list_below (λ i. test (rec t i)) (rooms t))
          (λ i j p q l e. let z : i ≡ j = a i j p.0 q.0 p.1 q.1 e in omega arith)
          (every-below (λ i. test (rec t i)) (rooms t))
          (pairs_below (λ i. test (rec t i)) (rooms t)));
      once = λ i. times-order t i (list_below (λ i. test (rec t i)) (rooms t)) ∙ times_below (λ i. test (rec t i)) i (rooms t);
    }

-- what holds of every record that passes holds of those listed
pub every-listed : (P : ℕ → Type 0) (t : List ℕ) (test : List ℕ → Bool) → ((i : ℕ) → i < rooms t → test (rec t i) ≡ true → P i)
    → Every P (listed boxed t test)
unfolding listed
every-listed P t test h =
    every-order t P (list_below (λ i. test (rec t i)) (rooms t))
    (every-imp _ P (list_below (λ i. test (rec t i)) (rooms t)) (λ i k. h i k.0 k.1) (every-below (λ i. test (rec t i)) (rooms t)))

-- no more are listed than there are records
pub few-listed : (t : List ℕ) (test : List ℕ → Bool) → length (listed boxed t test) ≤ rooms t
unfolding listed
few-listed t test =
    rw (length-in_order, length-list) (count_most (λ i. test (rec t i)) (rooms t))
