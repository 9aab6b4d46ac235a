-- What is counted to no buffer decides what is answered: too long, and nothing is written; or it is written where it was counted to fit.
use mathlib.Core.List.{List, [], ◌∷◌, ◌++◌}
use mathlib.Core.Path.{◌≡◌, refl}
use Prim.Native.Nat.{ℕ, ◌+◌, ◌≤◌, ◌<◌}
use native.Mathlib.Omega.{arith}
use lib.ListN.{length, drop, replicate, length-replicate, get_or-replicate}
use borrow.Author.Tests.{le-leb, lt-leb}
use Rattle.paper.specs.Table.{rooms}
use Rattle.std.proofs.Common.{Option, Some, None}
use Rattle.tree.specs.Gathered.{last_below, Chained}
use Rattle.tree.specs.Shown.{placed, Lists, answered, replied}
use Rattle.tree.proofs.Places.{placed_at, placed-over}

-- no record is chained yet
pub chained_none : (t : List ℕ) → Chained t 0 (replicate 2048 0) (replicate 2048 0)
unfolding last_below
chained_none t =
    record {
      from = λ h l. get_or-replicate 2048 h 0 0 l;
      on = λ e h l. let z : ⊥ = omega arith in absurd z;
      firsts = length-replicate {A = ℕ} 2048 0;
      others = length-replicate {A = ℕ} 2048 0;
    }

-- a table of too many records
pub too_many : (t s reply : List ℕ) → 2048 < rooms t → (None ≡ answered t s reply) × (reply ≡ replied t s reply)
unfolding answered replied
too_many t s reply l = rw (lt-leb (rooms t) 2048 l) (refl, refl)

empty : (o : List ℕ) → length o ≡ 0 → o ≡ []
empty [] e = refl
empty (a ∷ o) e = let z : ⊥ = omega arith in absurd z

module _ (t s reply o : List ℕ) (few : rooms t ≤ 2048) (e : length o ≡ 0) where
  pub counted_past : None ≡ placed 0 (length reply) (length s) → (None ≡ answered t s reply) × (o ++ drop 0 reply ≡ replied t s reply)
  unfolding answered replied
  counted_past q =
      let l : length reply < 0 + length s = placed-over 0 (length reply) (length s) q in
      rw (le-leb (rooms t) 2048 few, lt-leb (length s) (length reply) (omega arith), empty o e) (q, refl)

  pub counted_fit : (p : ℕ) → Some p ≡ placed 0 (length reply) (length s) → (r : Option ℕ) (after : List ℕ)
      → Lists s (o ++ drop 0 reply) 0 (length reply) r after → (r ≡ answered t s reply) × (after ≡ replied t s reply)
  unfolding answered replied
  counted_fit p q r after n =
      let l = (placed_at 0 (length reply) (length s) p q).0 in
      let b = rw (empty o e) at (n.bytes l) in
      rw (le-leb (rooms t) 2048 few, le-leb (length s) (length reply) (omega arith)) (n.place, b)
