-- The turns of the loops: at each place what is left of a list tells what the whole tells, since one step of the definition is one turn.
-- A search's turn leaves a part of the places, and as many looks as the list has places, less those taken.
use mathlib.Core.Bool.{Bool, true, false, ◌&&◌, cond}
use mathlib.Core.List.{List}
use mathlib.Core.Path.{◌≡◌, refl, sym}
use Prim.Native.Nat.{ℕ, zero, suc, ◌+◌, ◌-◌, ◌≤◌, ◌<◌}
use native.Mathlib.Omega.{arith}
use native.Mathlib.Numerals.{add-one}
use lib.Dec.{eqb, ltb}
use lib.ListN.{length, get_or, drop, drop_of_length-le}
use lib.Seq.{drop-cons}
use borrow.Author.Tests.{lt-ltb, le-ltb}
use Rattle.paper.specs.Scan.{count_below}
use Rattle.paper.specs.Index.{middle, halving}
use Rattle.laws.proofs.Counts.{count-more}
use Rattle.index_laws.specs.Climbs.{goes_on, climbs, padding}

-- ---- ascending

-- e is what stands at place i, and r whether it goes on
module _ (k : ℕ → ℕ) (p : ℕ → Bool) (n b : ℕ) (x : List ℕ) (i : ℕ) where
  pub climb-on : (r : Bool) (e : ℕ) → i < length x → e ≡ get_or x i 0 → r ≡ goes_on k p n b e → r ≡ true
      → climbs k p n (k e + 1) (drop (i + 1) x) ≡ climbs k p n b (drop i x)
  unfolding climbs
  climb-on r e h w g q = rw (w, add-one i, drop-cons x i 0 h, ← (rw w at g), q)

  pub climb-off : (r : Bool) (e : ℕ) → i < length x → e ≡ get_or x i 0 → r ≡ goes_on k p n b e → r ≡ false → false ≡ climbs k p n b (drop i x)
  unfolding climbs
  climb-off r e h w g q = rw (drop-cons x i 0 h, ← (rw w at g), q)

  pub climb-end : length x ≤ i → true ≡ climbs k p n b (drop i x)
  unfolding climbs
  climb-end h = rw (drop_of_length-le x h)

-- ---- counting

-- c of them so far, and r more at place n
pub count-on : (p : ℕ → Bool) (n c r : ℕ) → r ≡ cond (p n) 1 0 → c ≡ count_below p n → c + r ≡ count_below p (n + 1)
count-on p n c r q e = rw (count-more p n, q, ← e) (plus (p n))
  where
    plus : (b : Bool) → c + cond b 1 0 ≡ cond b (c + 1) c
    plus true = refl
    plus false = omega arith

-- ---- padding

module _ (x : List ℕ) (i : ℕ) where
  -- o: nothing but 65,535 so far
  pub pad-on : (o : Bool) → i < length x → ((o && eqb (get_or x i 0) 65535) && padding (drop (i + 1) x)) ≡ (o && padding (drop i x))
  unfolding padding
  pad-on o h = rw (add-one i, drop-cons x i 0 h) (and_assoc o (eqb (get_or x i 0) 65535) (padding (drop (suc i) x)))
    where
      and_assoc : (a b c : Bool) → ((a && b) && c) ≡ (a && (b && c))
      and_assoc true b c = refl
      and_assoc false b c = refl

  pub pad-end : (o : Bool) → length x ≤ i → o ≡ (o && padding (drop i x))
  unfolding padding
  pad-end true h = rw (drop_of_length-le x h)
  pad-end false h = refl

-- ---- halving

module _ (k : ℕ → ℕ) (x : List ℕ) (y low past n : ℕ) where
  pub half-end : (f : ℕ) → past ≤ low → halving k x y f low past n ≡ record { found = false; place = low; count = n }
  unfolding halving
  half-end zero h = refl
  half-end (suc f) h = rw (le-ltb low past h)

  -- e stands in the middle and has rank v; a and b tell whether that is y, and less than y
  module _ (s e v : ℕ) (h : low < past) (r : n < s) (i : e ≡ get_or x (middle low past) 0) (w : v ≡ k e) (a : Bool) (f : a ≡ eqb v y) where
    looks : s - n ≡ suc (s - (n + 1))
    looks = omega arith

    same : a ≡ eqb (k (get_or x (middle low past) 0)) y
    same = rw (w, i) at f

    pub half-here : a ≡ true → halving k x y (s - n) low past n ≡ record { found = true; place = middle low past; count = n + 1 }
    unfolding halving
    half-here q = rw (looks, lt-ltb low past h, ← same, q)

    module _ (q : a ≡ false) (b : Bool) (g : b ≡ ltb v y) where
      less : b ≡ ltb (k (get_or x (middle low past) 0)) y
      less = rw (w, i) at g

      pub half-on : b ≡ true → halving k x y (s - (n + 1)) (middle low past + 1) past (n + 1) ≡ halving k x y (s - n) low past n
      unfolding halving
      half-on t = sym (rw (looks, lt-ltb low past h, ← same, q, ← less, t))

      pub half_back : b ≡ false → halving k x y (s - (n + 1)) low (middle low past) (n + 1) ≡ halving k x y (s - n) low past n
      unfolding halving
      half_back t = sym (rw (looks, lt-ltb low past h, ← same, q, ← less, t))
