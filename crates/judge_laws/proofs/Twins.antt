-- Twins: entries that stand in one place and bear one number, found in the chains by a hash of what they share.
-- A twin has the same hash, so it is in the bucket; the walk down the bucket meets the last one first.
use mathlib.Core.Bool.{true, false}
use mathlib.Core.List.{List}
use mathlib.Core.Path.{◌≡◌, sym}
use Prim.Native.Nat.{ℕ, ◌-◌, ◌≤◌, ◌<◌}
use native.Mathlib.Omega.{arith}
use lib.ListN.{get_or}
use lib.Dec.{eqb}
use borrow.Author.Tests.{eqb-true, eq-eqb}
use Rattle.judge_laws.specs.Chains.{in_bucket, last_in, Linked}
use Rattle.judge_laws.specs.Twins.{twin, twin_to, single, no_twins, hash_of}
use Rattle.paper.specs.Entry.{holder, stands}
use Rattle.paper.specs.Layout.{packed_name}
use Rattle.paper.specs.Record.{is_kind, holder_of, user_of}
use Rattle.paper.specs.Scan.{any_below}
use Rattle.paper.specs.Table.{rooms, rec}
use Rattle.judge_laws.proofs.Chains.{Walk, walk_start, walk_end, walk-found, walk-on}
use Rattle.judge_laws.proofs.Lasts.{last_none, last_some}
use Rattle.laws.proofs.Scans.{all_here, all-false}
use Rattle.laws.proofs.Entries.{stands-true, stands_by}
use Rattle.laws.proofs.Tests.{and_left, and_right, and_both, false-by}
use Rattle.judge_laws.proofs.Tests.{and-past}

pub hash-below : (r : List ℕ) → hash_of r < 2048
unfolding hash_of
hash-below r = omega arith

-- what twins share
pub record Alike (a b : List ℕ) : Type 0 where
  pub kind : is_kind 2 b ≡ true
  pub place : holder_of b ≡ holder_of a
  pub user : user_of b ≡ user_of a
  pub name : packed_name b ≡ packed_name a

pub twin-alike : (a b : List ℕ) → twin a b ≡ true → Alike a b
twin-alike a b e =
    let s = stands-true (holder a) b (and_left (stands (holder a) b) _ e) in
    record {
      kind = eq-eqb _ _ s.kind;
      place = s.heading;
      user = s.user;
      name = sym (eqb-true _ _ (and_right (stands (holder a) b) _ e));
    }

pub alike-twin : (a b : List ℕ) → Alike a b → twin a b ≡ true
alike-twin a b s =
    and_both (stands (holder a) b) _ (stands_by (holder a) b (record { kind = eqb-true _ _ s.kind; heading = s.place; user = s.user }))
    (eq-eqb _ _ (sym s.name))

-- twins have one hash
pub hash-alike : (a b : List ℕ) → Alike a b → hash_of b ≡ hash_of a
unfolding hash_of
hash-alike a b s = rw (s.place, s.user, s.name)

twin-bucket : (t : List ℕ) (i j : ℕ) → twin_to t i j ≡ true → in_bucket hash_of t (hash_of (rec t i)) j ≡ true
twin-bucket t i j e =
    let s = twin-alike (rec t i) (rec t j) e in
    and_both (is_kind 2 (rec t j)) _ s.kind (eq-eqb (hash_of (rec t j)) (hash_of (rec t i)) (hash-alike (rec t i) (rec t j) s))

-- the walk for an entry alike
pub twin-start : (t : List ℕ) (i c : ℕ) → c ≡ last_in hash_of t (hash_of (rec t i)) i → Walk hash_of t (twin_to t i) i c
twin-start t i c e = walk_start hash_of t (twin_to t i) i (twin-bucket t i) c e

module _ (t : List ℕ) (i c : ℕ) (w : Walk hash_of t (twin_to t i) i c) where
  pub twin-end : c ≤ 0 → any_below (twin_to t i) i ≡ false
  twin-end l = last_none (twin_to t i) i (walk_end hash_of t (twin_to t i) i (twin-bucket t i) c w l)

  pub twin-found : 0 < c → twin (rec t i) (rec t (c - 1)) ≡ true → any_below (twin_to t i) i ≡ true
  twin-found l e =
      last_some (twin_to t i) i c
      (walk-found hash_of t (twin_to t i) i (twin-bucket t i) c w l e) l

  pub twin-on : (next : List ℕ) (c' : ℕ) → 0 < c → twin (rec t i) (rec t (c - 1)) ≡ false
      → Linked hash_of t next i → c' ≡ get_or next (c - 1) 0
      → Walk hash_of t (twin_to t i) i c' × (c' < c)
  twin-on next c' l n h e = walk-on hash_of t (twin_to t i) i (twin-bucket t i) next c c' w l n h e

-- the whole test
pub single-all : (t : List ℕ) → ((i : ℕ) → i < rooms t → single t i ≡ true) → no_twins t ≡ true
unfolding no_twins
single-all t h = all_here (single t) (rooms t) h

pub twin-one : (t : List ℕ) (i : ℕ) → i < rooms t → single t i ≡ false → no_twins t ≡ false
unfolding no_twins
twin-one t i l e = all-false (single t) (rooms t) i l e

-- the test, part by part
module _ (a b : List ℕ) where
  pub twin-not-place : (holder_of a ≡ holder_of b → ⊥) → twin a b ≡ false
  twin-not-place n = false-by (twin a b) (λ e. n (sym (twin-alike a b e).place))

  pub twin-not-user : (user_of a ≡ user_of b → ⊥) → twin a b ≡ false
  twin-not-user n = false-by (twin a b) (λ e. n (sym (twin-alike a b e).user))

  pub twin-name : is_kind 2 b ≡ true → holder_of a ≡ holder_of b → user_of a ≡ user_of b → twin a b ≡ eqb (packed_name a) (packed_name b)
  twin-name k p u =
      and-past (stands (holder a) b) _ (stands_by (holder a) b (record { kind = eqb-true _ _ k; heading = sym p; user = sym u }))
