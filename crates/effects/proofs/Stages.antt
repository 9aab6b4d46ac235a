-- Stages of stores: the first k stores of two lists joined are the first k of the one, and of the other as many as are then left.
-- So a stage is made store by store, and two stages one after the other make their lists joined.
use mathlib.Core.List.{List, [], ◌∷◌, ◌++◌}
use mathlib.Core.Logic.{by_cases}
use mathlib.Core.Path.{◌≡◌, refl, sym, ap, ◌∙◌}
use Prim.Native.Nat.{ℕ, zero, suc, ◌+◌, ◌-◌, ◌<◌}
use native.Mathlib.Omega.{arith}
use native.Mathlib.Decide.{dec_lt}
use native.Mathlib.Nat.{sub-zero, zero-sub, suc-sub-suc}
use lib.ListN.{length, take, length-append}
use lib.Seq.{take-nil, take_all}
use Rattle.paper.specs.Scan.{each_below, join_below}
use Rattle.paper.specs.Table.{lay}
use Rattle.paper.specs.Store.{Store, puts, run}
use Rattle.laws.proofs.Lists.{join_more}
use Rattle.effects.specs.Stage.{Made}

pub run-take-append : (t : List ℕ) (k : ℕ) (a b : List Store) → run t (take k (a ++ b)) ≡ run (run t (take k a)) (take (k - length a) b)
unfolding run
run-take-append t k [] b = rw (sub-zero, take-nil k)
run-take-append t zero (s ∷ a) b = rw zero-sub
run-take-append t (suc k) (s ∷ a) b = rw suc-sub-suc (run-take-append (lay t s.at s.bytes) k a b)

-- one stage after another
pub made-both : (t u v : List ℕ) (k l m : ℕ) (a b : List Store) → Made t u k l a → Made u v l m b → Made t v k m (a ++ b)
made-both t u v k l m a b p q =
    record {
      table = q.table ∙ rw (p.left, p.table) (sym (run-take-append t k a b));
      left = q.left ∙ rw length-append (omega (arith, p.left));
    }

-- .. and one that goes by the table that the first leaves: where the first is cut, no store is left for it
pub made-onto : (t u v : List ℕ) (k l m : ℕ) (a : List Store) (b : List ℕ → List Store) → Made t u k l a → Made u v l m (b u)
    → Made t v k m (a ++ b (run t a))
unfolding run
made-onto t u v k l m a b p q =
    by_cases (dec_lt k (length a))
    (λ (o : k < length a).
    let z : l ≡ 0 = omega (arith, p.left) in
    let n : k - length a ≡ 0 = omega arith in
    record {
      table = q.table ∙ rw z (p.table ∙ sym (run-take-append t k a (b (run t a)) ∙ rw n));
      left = q.left ∙ rw length-append (omega arith);
    })
    (λ (o : ¬ (k < length a)).
    let e : u ≡ run t a = p.table ∙ ap (run t) (take_all k a (omega arith)) in
    made-both t u v k l m a (b (run t a)) p (rw (ap b e) at q))

-- one store: none where none is allowed
pub made-stopped : (t : List ℕ) (k : ℕ) (s : Store) → k ≡ 0 → Made t t k 0 (s ∷ [])
unfolding run
made-stopped t k s e = record { table = rw e; left = omega arith }

pub made_one : (t u : List ℕ) (k i : ℕ) (r : List ℕ) → 0 < k → u ≡ lay t i r → Made t u k (k - 1) (puts i r ∷ [])
unfolding run
made_one t u zero i r h e = let z : ⊥ = omega arith in absurd z
made_one t u (suc k) i r h e = record { table = e ∙ sym (ap (run (lay t i r)) (take-nil k)); left = refl }

-- no store
pub made_none : (t : List ℕ) (k : ℕ) → Made t t k k []
unfolding run
made_none t k = record { table = rw (take-nil k); left = omega arith }

-- nothing of a stage with a store for each number
pub made-start : (t : List ℕ) (k : ℕ) (f : ℕ → Store) → Made t t k k (each_below f 0)
unfolding join_below
made-start t k f = made_none t k

-- .. and one more of it
pub made_more : (t u v : List ℕ) (k l m : ℕ) (f : ℕ → Store) (n : ℕ) → Made t u k l (each_below f n) → Made u v l m (f n ∷ [])
    → Made t v k m (each_below f (n + 1))
made_more t u v k l m f n p q = rw (join_more (λ i. f i ∷ []) n) (made-both t u v k l m (each_below f n) (f n ∷ []) p q)

-- no second answer fits
pub made-one-answer : (t u v : List ℕ) (k l m : ℕ) (stage : List Store) → Made t u k l stage → Made t v k m stage → (u ≡ v) × (l ≡ m)
made-one-answer t u v k l m stage p q = (p.table ∙ sym q.table, p.left ∙ sym q.left)
