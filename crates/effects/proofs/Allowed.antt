-- All stores of a call that clears and then corrects: where the stop number cuts the first stage no store of the second is made, and else the second
-- goes on from the table that the first leaves, with the stores that are then left.
use mathlib.Core.Bool.{Bool}
use mathlib.Core.List.{List, ◌++◌, map}
use mathlib.Core.Path.{◌≡◌, ap, ◌∙◌}
use Prim.Native.Nat.{ℕ, ◌≤◌, ◌<◌}
use native.Mathlib.Omega.{arith}
use native.Mathlib.Nat.{sub-zero}
use lib.ListN.{length, length-append}
use lib.Seq.{take_all, take-append-le}
use Rattle.paper.specs.Store.{Store, clear, clears, fills, run}
use Rattle.laws.proofs.Lists.{list-cong}
use Rattle.effects.specs.Counted.{Counted}
use Rattle.effects.specs.Allowed.{Allowed}
use Rattle.effects.proofs.Counted.{counted-both}

-- the same records in another way
pub clears-cong : (p q : ℕ → Bool) (n : ℕ) → ((i : ℕ) → i < n → p i ≡ q i) → clears p n ≡ clears q n
unfolding fills
clears-cong p q n h = ap (map clear) (list-cong p q n h)

-- two stages, the second only where the stop number allows all of the first
pub allowed-cut : (t u : List ℕ) (k n : ℕ) (a b : List Store) → Counted t u k 0 n a → k < n → Allowed t u k n (a ++ b)
allowed-cut t u k n a b c l =
    let e : n ≡ length a = omega (arith, c.count) in
    let m : k ≤ length a = omega arith in
    record {
      table = c.table ∙ rw (sub-zero, take-append-le k a b m);
      all = λ (z : n ≤ k). let x : ⊥ = omega arith in absurd x;
      more = λ _. rw length-append (omega arith);
    }

allowed_all : (t v : List ℕ) (k n : ℕ) (a : List Store) → Counted t v k 0 n a → Allowed t v k n a
allowed_all t v k n a c =
    let e : n ≡ length a = omega (arith, c.count) in
    record { table = c.table ∙ rw sub-zero; all = λ _. e; more = λ (l : k < n). omega arith }

pub allowed-both : (t u v : List ℕ) (k n m : ℕ) (a : List Store) (b : List ℕ → List Store) → Counted t u k 0 n a → n ≤ k → Counted u v k n m (b u)
    → Allowed t v k m (a ++ b (run t a))
allowed-both t u v k n m a b p l q =
    let h : length a ≤ k = omega (arith, p.count) in
    let e : u ≡ run t a = p.table ∙ rw (sub-zero, take_all k a h) in
    allowed_all t v k m (a ++ b (run t a)) (counted-both t u v k 0 n m a (b (run t a)) p (rw (ap b e) at q))
