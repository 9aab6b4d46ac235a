-- Entries numbered in their places: the number of an entry is one more than that of the last entry before it there.
-- A place is crowded exactly when the number of some entry in it is past the limit, and the last has them all.
use mathlib.Core.Bool.{true, false, true≢false}
use mathlib.Core.List.{List}
use mathlib.Core.Logic.{◌⊎◌, inl, inr, ◌≢◌, by_cases}
use mathlib.Core.Path.{◌≡◌, refl, sym, ap, ◌∙◌}
use Prim.Native.Nat.{ℕ, ◌+◌, ◌-◌, ◌≤◌, ◌<◌}
use native.Mathlib.Omega.{arith}
use native.Mathlib.Decide.{ℕ_discrete, dec_lt}
use lib.ListN.{length, get_or, set, length-set}
use lib.Seq.{get_or-set_same, get_or-set_other}
use lib.Dec.{eqb, leb}
use borrow.Author.Tests.{eqb-true, eq-eqb, leb-true, leb-false, le-leb, lt-leb}
use Rattle.judge_laws.specs.Chains.{in_bucket, last_in, Linked}
use Rattle.judge_laws.specs.Crowds.{place_of, beside_to, rank_of, roomy, Ranked}
use Rattle.judge_laws.specs.Tally.{last_below}
use Rattle.paper.specs.Entry.{holder, stands, crowd, limit}
use Rattle.paper.specs.Record.{is_kind, holder_of, user_of}
use Rattle.paper.specs.Scan.{count_below}
use Rattle.paper.specs.Sound.{implies, not_crowded, none_crowded}
use Rattle.paper.specs.Table.{rooms, rec}
use Rattle.judge_laws.proofs.Chains.{Walk, walk_start, walk_end, walk-found, walk-on}
use Rattle.laws.proofs.Scans.{all-false}
use Rattle.laws.proofs.Sound.{every_here}
use Rattle.laws.proofs.Entries.{stands-true, stands_by}
use Rattle.laws.proofs.Counts.{count-cong, count-more, count-up}
use Rattle.laws.proofs.Tests.{truth, and_both, implies-use, false-by}
use Rattle.judge_laws.proofs.Lasts.{last-most, last-past, last-here, count-last}

pub bucket-below : (r : List ℕ) → place_of r < 2048
unfolding place_of
bucket-below r = omega arith

-- in one place
pub record Same (a b : List ℕ) : Type 0 where
  pub dir : holder_of b ≡ holder_of a
  pub user : user_of b ≡ user_of a

pub beside_same : (a b : List ℕ) → stands (holder a) b ≡ true → (is_kind 2 b ≡ true) × Same a b
beside_same a b e = let s = stands-true (holder a) b e in (eq-eqb _ _ s.kind, record { dir = s.heading; user = s.user })

pub same_beside : (a b : List ℕ) → is_kind 2 b ≡ true → Same a b → stands (holder a) b ≡ true
same_beside a b k s = stands_by (holder a) b (record { kind = eqb-true _ _ k; heading = s.dir; user = s.user })

place_same : (a b : List ℕ) → Same a b → place_of b ≡ place_of a
unfolding place_of
place_same a b s = rw (s.dir, s.user)

limit-same : (a b : List ℕ) → Same a b → limit (holder a) ≡ limit (holder b)
limit-same a b s = rw s.dir

module _ (t : List ℕ) where
  same_of : (i j : ℕ) → beside_to t i j ≡ true → Same (rec t i) (rec t j)
  same_of i j e = (beside_same (rec t i) (rec t j) e).1

  to-like : (i j k : ℕ) → Same (rec t i) (rec t j) → beside_to t i k ≡ beside_to t j k
  unfolding stands
  to-like i j k s = rw (s.dir, s.user)

  pub beside-bucket : (i j : ℕ) → beside_to t i j ≡ true → in_bucket place_of t (place_of (rec t i)) j ≡ true
  beside-bucket i j e =
      and_both (is_kind 2 (rec t j)) _ (beside_same (rec t i) (rec t j) e).0
      (eq-eqb (place_of (rec t j)) (place_of (rec t i)) (place_same (rec t i) (rec t j) (same_of i j e)))

  itself : (i : ℕ) → is_kind 2 (rec t i) ≡ true → beside_to t i i ≡ true
  itself i k = same_beside (rec t i) (rec t i) k (record { dir = refl; user = refl })

  -- as many as up to the last one there, which has the same place
  count-rank : (i n c : ℕ) → c ≡ last_below (beside_to t i) n → 0 < c
      → (count_below (beside_to t i) n ≡ rank_of t (c - 1)) × (is_kind 2 (rec t (c - 1)) ≡ true) × Same (rec t i) (rec t (c - 1)) × (c ≤ n)
  unfolding rank_of
  count-rank i n c e l =
      let h : beside_to t i (c - 1) ≡ true = rw e (last-here (beside_to t i) n (rw e at l)) in
      let s = same_of i (c - 1) h in
      let z : c ≡ (c - 1) + 1 = omega arith in (
        count-last (beside_to t i) n ∙ ap (count_below (beside_to t i)) (sym e ∙ z)
            ∙ count-cong (beside_to t i) (beside_to t (c - 1)) ((c - 1) + 1) (λ k _. to-like i (c - 1) k s),
        (beside_same (rec t i) (rec t (c - 1)) h).0,
        s,
        rw e (last-most (beside_to t i) n),
      )

  rank-more : (i : ℕ) → is_kind 2 (rec t i) ≡ true → rank_of t i ≡ count_below (beside_to t i) i + 1
  unfolding rank_of
  rank-more i k = count-more (beside_to t i) i ∙ rw (itself i k)

  -- the number of entry i, from the last entry of its place before it
  pub rank-first : (i c : ℕ) → is_kind 2 (rec t i) ≡ true → c ≡ last_below (beside_to t i) i → c ≤ 0 → rank_of t i ≡ 1
  unfolding count_below
  rank-first i c k e l =
      let q : last_below (beside_to t i) i ≡ 0 = omega arith in
      let z : count_below (beside_to t i) i ≡ 0 = count-last (beside_to t i) i ∙ rw q in
      rank-more i k ∙ rw z

  pub rank-next : (rank : List ℕ) (i c : ℕ) → Ranked t rank i → is_kind 2 (rec t i) ≡ true → c ≡ last_below (beside_to t i) i → 0 < c
      → rank_of t i ≡ get_or rank (c - 1) 0 + 1
  rank-next rank i c r k e l =
      let z = count-rank i i c e l in
      rank-more i k ∙ ap (λ m. m + 1) (z.0 ∙ sym (r.at (c - 1) (omega (arith, z.3)) z.1))

  -- the whole test
  pub roomy-all : ((i : ℕ) → i < rooms t → roomy t i ≡ true) → none_crowded t ≡ true
  unfolding none_crowded crowd
  roomy-all h = every_here 2 (not_crowded t) t (λ i l k. one i l (eq-eqb _ _ k))
    where
      one : (i : ℕ) → i < rooms t → is_kind 2 (rec t i) ≡ true → leb (count_below (beside_to t i) (rooms t)) (limit (holder (rec t i))) ≡ true
      one i l k =
          let c = last_below (beside_to t i) (rooms t) in
          by_cases (dec_lt 0 c)
          (λ (p : 0 < c).
          let z = count-rank i (rooms t) c refl p in
          let b : rank_of t (c - 1) ≤ limit (holder (rec t (c - 1))) =
          leb-true _ _ (implies-use (is_kind 2 (rec t (c - 1))) _ (h (c - 1) (omega (arith, z.3))) z.1) in
          let d : limit (holder (rec t i)) ≡ limit (holder (rec t (c - 1))) = limit-same (rec t i) (rec t (c - 1)) z.2 in
          le-leb (count_below (beside_to t i) (rooms t)) (limit (holder (rec t i))) (rw (z.0, d) b))
          (λ (p : ¬ (0 < c)). absurd (true≢false (sym (itself i k) ∙ last-past (beside_to t i) (rooms t) i (omega arith) l)))

  pub crowded-one : (i : ℕ) → i < rooms t → roomy t i ≡ false → none_crowded t ≡ false
  unfolding none_crowded crowd rank_of
  crowded-one i l e =
      all-false (λ i. implies (is_kind 2 (rec t i)) (not_crowded t i (rec t i))) (rooms t) i l (one (truth (is_kind 2 (rec t i))))
    where
      one : (is_kind 2 (rec t i) ≡ true) ⊎ (is_kind 2 (rec t i) ≡ false)
          → implies (is_kind 2 (rec t i)) (leb (count_below (beside_to t i) (rooms t)) (limit (holder (rec t i)))) ≡ false
      one (inr k) = absurd (true≢false (rw k at e))
      one (inl k) =
          let b : limit (holder (rec t i)) < count_below (beside_to t i) (i + 1) = leb-false _ _ (rw k at e) in
          rw k
          (lt-leb (count_below (beside_to t i) (rooms t)) (limit (holder (rec t i)))
          (omega (arith, count-up (beside_to t i) (i + 1) (rooms t) (omega arith))))

module _ (t rank : List ℕ) (i : ℕ) (r : Ranked t rank i) where
  pub ranked-other : is_kind 2 (rec t i) ≡ false → Ranked t rank (i + 1)
  ranked-other k =
      record {
        at = λ j l e. by_cases (ℕ_discrete j i) (λ (q : j ≡ i). absurd (true≢false (sym e ∙ rw q k))) (λ (q : j ≢ i). r.at j (omega arith) e);
        long = r.long;
      }

  pub ranked-entry : i < 2048 → (m : ℕ) → m ≡ rank_of t i → Ranked t (set rank i m) (i + 1)
  ranked-entry l m e =
      record {
        at = λ j b k. by_cases (ℕ_discrete j i)
            (λ (q : j ≡ i). rw q (get_or-set_same rank i m 0 (omega (arith, r.long)) ∙ e))
            (λ (q : j ≢ i). get_or-set_other rank i j m 0 q ∙ r.at j (omega arith) k);
        long = length-set rank i m ∙ r.long;
      }

pub ranked-none : (t rank : List ℕ) → length rank ≡ 2048 → Ranked t rank 0
ranked-none t rank e = record { at = λ j l. let z : ⊥ = omega arith in absurd z; long = e }

-- the walk for the last entry of the place
pub beside-start : (t : List ℕ) (i c : ℕ) → c ≡ last_in place_of t (place_of (rec t i)) i → Walk place_of t (beside_to t i) i c
beside-start t i c e = walk_start place_of t (beside_to t i) i (beside-bucket t i) c e

module _ (t : List ℕ) (i c : ℕ) (w : Walk place_of t (beside_to t i) i c) where
  pub beside_end : c ≤ 0 → last_below (beside_to t i) i ≡ 0
  beside_end l = walk_end place_of t (beside_to t i) i (beside-bucket t i) c w l

  pub beside-found : 0 < c → beside_to t i (c - 1) ≡ true → last_below (beside_to t i) i ≡ c
  beside-found l e = walk-found place_of t (beside_to t i) i (beside-bucket t i) c w l e

  pub beside-on : (next : List ℕ) (c' : ℕ) → 0 < c → beside_to t i (c - 1) ≡ false
      → Linked place_of t next i → c' ≡ get_or next (c - 1) 0
      → Walk place_of t (beside_to t i) i c' × (c' < c)
  beside-on next c' l n h e = walk-on place_of t (beside_to t i) i (beside-bucket t i) next c c' w l n h e

-- the test for one place, part by part
module _ (a b : List ℕ) where
  pub beside-not : (holder_of a ≡ holder_of b → ⊥) → stands (holder a) b ≡ false
  beside-not n = false-by (stands (holder a) b) (λ e. n (sym (beside_same a b e).1.dir))

  pub beside-user : is_kind 2 b ≡ true → holder_of a ≡ holder_of b → stands (holder a) b ≡ eqb (user_of b) (user_of a)
  unfolding stands
  beside-user k e = rw (k, eq-eqb (holder_of b) (holder_of a) (sym e))
