-- A look-up through a true index is the plain scan's answer: the places before the end are the entries in order, what the search
-- met there is the one entry of its rank, and where it met none the ranks are all less or more. It looks at no more than 12 entries.
use mathlib.Core.Bool.{Bool, true, false, cond}
use mathlib.Core.List.{List}
use mathlib.Core.Logic.{◌⊎◌, inl, inr, ◌≢◌, by_cases}
use mathlib.Core.Path.{◌≡◌, sym, ap, ◌∙◌}
use Prim.Native.Nat.{ℕ, ◌-◌, ◌^◌, ◌≤◌, ◌<◌}
use native.Mathlib.Omega.{arith}
use native.Mathlib.Decide.{dec_lt}
use lib.Dec.{eqb}
use lib.ListN.{length, get_or, take, replicate, get_or-append}
use lib.Seq.{take_at}
use borrow.Author.Tests.{eqb-true, eq-eqb}
use Rattle.paper.specs.Scan.{any_below, at, nowhere, first_below}
use Rattle.paper.specs.Table.{rooms}
use Rattle.paper.specs.Name.{link_name}
use Rattle.paper.specs.Entry.{Holder}
use Rattle.paper.specs.Index.{Met, Sought, rank, is_entry, entries, true_index, is_true, sought, used, met_at, rank_in, looked_up}
use Rattle.laws.proofs.Entries.{same_true}
use Rattle.laws.proofs.Scans.{any-true, first-here, first-none}
use Rattle.laws.proofs.Tests.{truth, and_left, and_right, and_both, false-by}
use Rattle.index_laws.specs.Judged.{ranks, apart}
use Rattle.index_laws.specs.Scanned.{scanned}
use Rattle.index_laws.proofs.Orders.{In, Up, up-once, order-in, in_order_lem}
use Rattle.index_laws.proofs.Ends.{used-most, used-front, used-length}
use Rattle.index_laws.proofs.Halves.{sought-met, sought-split, sought-most, place_in, in_place_lem, up-places}
use Rattle.index_laws.proofs.Truth.{entries-up}

-- ---- the places before the end

module _ (t : List ℕ) (h : rooms t ≤ 65535) where
  pub used-true : used (true_index t) ≡ length (entries t)
  unfolding true_index
  used-true = used-front (entries t) (rooms t - length (entries t)) (λ e i. omega (arith, (order-in (rank t) (is_entry t) (rooms t) e i).0))

  pub front : take (used (true_index t)) (true_index t) ≡ entries t
  unfolding true_index
  front = take_at (entries t) (replicate (rooms t - length (entries t)) 65535) (used (true_index t)) (sym used-true)

-- ---- the plain scan

module _ (t : List ℕ) (y : ℕ) (u : Up (rank t) 0 (entries t)) where
  ranked-in : (i : ℕ) → i < rooms t → ranks t y i ≡ true → In i (entries t) × (rank t i ≡ y)
  unfolding ranks
  ranked-in i l q = (
    in_order_lem (rank t) (is_entry t) (rooms t) i l (and_left (is_entry t i) (eqb (rank t i) y) q),
    eqb-true (rank t i) y (and_right (is_entry t i) (eqb (rank t i) y) q),
  )

  in-ranked : (e : ℕ) → In e (entries t) → rank t e ≡ y → (e < rooms t) × (ranks t y e ≡ true)
  unfolding ranks
  in-ranked e i q = let r = order-in (rank t) (is_entry t) (rooms t) e i in (r.0, and_both (is_entry t e) (eqb (rank t e) y) r.1 (eq-eqb (rank t e) y q))

  scan-met : (e : ℕ) → In e (entries t) → rank t e ≡ y → first_below (ranks t y) (rooms t) ≡ at e
  scan-met e i q =
      let r = in-ranked e i q in
      first-here (ranks t y) (rooms t) e r.0 r.1
      (false-by (any_below (ranks t y) e) (λ (z : any_below (ranks t y) e ≡ true).
      let w = any-true (ranks t y) e z in
      let b : w.0 < rooms t = omega (arith, w.1, r.0) in
      let g = ranked-in w.0 b w.2 in
      let s : w.0 ≡ e = up-once (rank t) 0 (entries t) w.0 e u g.0 i (g.1 ∙ sym q) in omega (arith, w.1)))

  scan-none : ((q : ℕ) → q < length (entries t) → rank t (get_or (entries t) q 0) ≢ y) → first_below (ranks t y) (rooms t) ≡ nowhere
  scan-none h =
      first-none (ranks t y) (rooms t)
      (false-by (any_below (ranks t y) (rooms t)) (λ (z : any_below (ranks t y) (rooms t) ≡ true).
      let r = any-true (ranks t y) (rooms t) z in
      let g = ranked-in r.0 r.1 r.2 in
      let p = in_place_lem (entries t) r.0 g.0 in h p.0 p.1 (ap (rank t) p.2 ∙ g.1)))

-- ---- the search over the entries in order

module _ (t x : List ℕ) (y : ℕ) where
  place_at : x ≡ true_index t → (p : ℕ) → p < length (entries t) → get_or x p 0 ≡ get_or (entries t) p 0
  unfolding true_index
  place_at w p l = rw w (get_or-append (entries t) (replicate (rooms t - length (entries t)) 65535) 0 p l)

  go : Up (rank t) 0 (entries t) → x ≡ true_index t → ((sought (rank t) (entries t) y).found ≡ true) ⊎ ((sought (rank t) (entries t) y).found ≡ false)
      → met_at x (sought (rank t) (entries t) y) ≡ scanned t y (sought (rank t) (entries t) y).count
  unfolding scanned
  go up w (inl f) =
      let m = (sought-met (rank t) (entries t) y).1 f in
      let j = (sought (rank t) (entries t) y).place in
      let r = scan-met t y up (get_or (entries t) j 0) (place_in (entries t) j m.0) m.1 in
      rw (f, r, place_at w j m.0)
  go up w (inr f) =
      let m = sought-split (rank t) (entries t) y (up-places (rank t) 0 (entries t) up) f in
      let r = scan-none t y up (λ p l (z : rank t (get_or (entries t) p 0) ≡ y). by_cases (dec_lt p (sought (rank t) (entries t) y).place)
      (λ (b : p < (sought (rank t) (entries t) y).place). omega (arith, m.0 p b))
      (λ (b : ¬ (p < (sought (rank t) (entries t) y).place)). omega (arith, m.1 p (omega arith) l))) in
      rw (f, r)

  -- on a table that has no rank twice, through its true index: the plain scan's answer
  pub looked-through : apart t ≡ true → is_true t x ≡ true → rooms t ≤ 65535
      → met_at x (sought (rank t) (take (used x) x) y) ≡ scanned t y (sought (rank t) (take (used x) x) y).count
  unfolding is_true
  looked-through a q h =
      let w : x ≡ true_index t = same_true x (true_index t) q in
      let s : take (used x) x ≡ entries t = rw w (front t h) in
      rw s (go (entries-up t a) w (truth (sought (rank t) (entries t) y).found))

module _ (t x : List ℕ) (d : Holder) (n : List ℕ) where
  -- a link name is looked up by its rank
  pub looked-up-is : link_name n ≡ true → looked_up t x d n ≡ met_at x (sought (rank t) (take (used x) x) (rank_in d n))
  unfolding looked_up
  looked-up-is l = rw l

  pub looked-up-scanned : link_name n ≡ true → apart t ≡ true → is_true t x ≡ true → rooms t ≤ 65535
      → looked_up t x d n ≡ scanned t (rank_in d n) (looked_up t x d n).count
  looked-up-scanned l a q h = rw (looked-up-is l) (looked-through t x (rank_in d n) a q h)

  -- for any list: at most f for fewer than 2 ^ f places
  pub looked-most : (f : ℕ) → length x < 2 ^ f → (looked_up t x d n).count ≤ f
  unfolding looked_up
  looked-most f h = most (link_name n)
    where
      most : (b : Bool) → (cond b (met_at x (sought (rank t) (take (used x) x) (rank_in d n))) (record { found = false; entry = 65535; count = 0 })).count ≤ f
      most true = sought-most (rank t) (take (used x) x) (rank_in d n) f (omega (arith, used-length x, used-most x))
      most false = omega arith

  -- "at most 12"
  pub looked-at : length x ≤ 2048 → (looked_up t x d n).count ≤ 12
  looked-at h = looked-most 12 (omega arith)

-- ---- the code's steps: m places are used, and s is what the search over them for rank y ended with

module _ (t x : List ℕ) (y m : ℕ) (u : m ≡ used x) (s : Sought) (g : s ≡ sought (rank t) (take m x) y) where
  places : length (take m x) ≤ length x
  places = rw u (omega (arith, used-length x, used-most x))

  pub place-below : s.found ≡ true → s.place < length x
  place-below q = let r = (sought-met (rank t) (take m x) y).1 (rw g at q) in rw g (omega (arith, r.0, places))

  pub count_small : length x < 2 ^ 64 → s.count ≤ 64
  count_small h = rw g (sought-most (rank t) (take m x) y 64 (omega (arith, places)))

  module _ (d : Holder) (name : List ℕ) (l : link_name name ≡ true) (e : y ≡ rank_in d name) where
    pub answer-is : met_at x s ≡ looked_up t x d name
    unfolding looked_up
    answer-is = rw (l, ← e, ← u, ← g)

pub answer-unnamed : (t x : List ℕ) (d : Holder) (name : List ℕ) → link_name name ≡ false
    → ◌≡◌ {A = Met} (record { found = false; entry = 65535; count = 0 }) (looked_up t x d name)
unfolding looked_up
answer-unnamed t x d name l = rw l
