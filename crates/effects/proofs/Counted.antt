-- A stage with the count of what is needed: the stores made are the first ones that the stop number leaves, while the count goes on past it.
-- So stages follow one another; one more record adds its store if it passes, and no record ahead is changed.
use mathlib.Core.Bool.{Bool, true, false, cond}
use mathlib.Core.List.{List, [], ◌∷◌, ◌++◌, map, map-append}
use mathlib.Core.Logic.{◌⊎◌, inl, inr}
use mathlib.Core.Path.{◌≡◌, refl, sym, ◌∙◌}
use Prim.Native.Nat.{ℕ, ◌+◌, ◌-◌, ◌≤◌, ◌<◌}
use native.Mathlib.Omega.{arith}
use native.Mathlib.Nat.{sub-zero}
use lib.ListN.{length, take, length-append}
use lib.Seq.{take-nil}
use Rattle.paper.specs.Scan.{join_below, list_below}
use Rattle.paper.specs.Store.{Store, puts, fills, run}
use Rattle.paper.specs.Table.{rooms, rec, lay}
use Rattle.laws.proofs.Fills.{every-fills}
use Rattle.laws.proofs.Lists.{every-imp, every_take, list-more}
use Rattle.laws.proofs.Runs.{Lays, run-each}
use Rattle.effects.specs.Counted.{Counted}
use Rattle.effects.specs.Stage.{Made}
use Rattle.effects.proofs.Stages.{run-take-append, made_one}

-- no store
pub counted_none : (t : List ℕ) (k m : ℕ) → Counted t t k m m []
unfolding run
counted_none t k m = record { table = rw (take-nil (k - m)); count = omega arith }

-- one store: made, or past the stop number
pub counted-one : (t u : List ℕ) (k m i : ℕ) (r : List ℕ) → m < k → u ≡ lay t i r → Counted t u k m (m + 1) (puts i r ∷ [])
counted-one t u k m i r l e = record { table = (made_one t u (k - m) i r (omega arith) e).table; count = refl }

pub counted-stopped : (t : List ℕ) (k m i : ℕ) (r : List ℕ) → k ≤ m → Counted t t k m (m + 1) (puts i r ∷ [])
unfolding run
counted-stopped t k m i r l = let z : k - m ≡ 0 = omega arith in record { table = rw z; count = refl }

-- one stage after another
pub counted-both : (t u v : List ℕ) (k l m n : ℕ) (a b : List Store) → Counted t u k l m a → Counted u v k m n b → Counted t v k l n (a ++ b)
counted-both t u v k l m n a b p q =
    let e : k - m ≡ k - l - length a = omega (arith, p.count) in
    record {
      table = q.table ∙ rw (e, p.table) (sym (run-take-append t (k - l) a b));
      count = q.count ∙ rw length-append (omega (arith, p.count));
    }

-- one more record of a stage of records laid by a test
module _ (p : ℕ → Bool) (b : ℕ → List ℕ) where
  pub fills-start : fills p b 0 ≡ []
  unfolding fills join_below
  fills-start = refl

  pub fills-more : (n : ℕ) → fills p b (n + 1) ≡ fills p b n ++ cond (p n) (puts n (b n) ∷ []) []
  unfolding fills
  fills-more n = rw (list-more, map-append) (go (p n))
    where
      go : (c : Bool) → map (λ i. puts i (b i)) (list_below p n) ++ map (λ i. puts i (b i)) (cond c (n ∷ []) [])
          ≡ map (λ i. puts i (b i)) (list_below p n) ++ cond c (puts n (b n) ∷ []) []
      go true = refl
      go false = refl

  pub counted_start : (t : List ℕ) (k m : ℕ) → Counted t t k m m (fills p b 0)
  counted_start t k m = rw fills-start (counted_none t k m)

  pub counted-more : (t u v : List ℕ) (k l m n i : ℕ) → Counted t u k l m (fills p b i)
      → Counted u v k m n (cond (p i) (puts i (b i) ∷ []) []) → Counted t v k l n (fills p b (i + 1))
  counted-more t u v k l m n i x y = rw (fills-more i) (counted-both t u v k l m n (fills p b i) _ x y)

  -- what is not below n is as it was, wherever the stage is cut
  pub rec-ahead : (t : List ℕ) (k n j : ℕ) → ((i : ℕ) → i < n → length (b i) ≡ 32) → n ≤ j → j < rooms t → rec (run t (take k (fills p b n))) j ≡ rec t j
  rec-ahead t k n j size m l =
      go (run-each (λ i _. i < n) t (take k (fills p b n)) (every_take _ k _ (every-imp _ _ (fills p b n) one (every-fills p b n size))) j l)
    where
      one : (x : Store) → Lays (λ i r. (r ≡ b i) × (p i ≡ true)) n x → Lays (λ i _. i < n) (rooms t) x
      one x h = let w : x.at < n = h.within in record { within = omega arith; size = h.size; holds = w }

      go : (rec (run t (take k (fills p b n))) j ≡ rec t j) ⊎ (j < n) → rec (run t (take k (fills p b n))) j ≡ rec t j
      go (inl e) = e
      go (inr e) = let z : ⊥ = omega arith in absurd z

-- .. and what is left where none was needed before
pub counted-made : (t u : List ℕ) (k n : ℕ) (stage : List Store) → Counted t u k 0 n stage → Made t u k (k - n) stage
counted-made t u k n stage c = record { table = c.table ∙ rw sub-zero; left = omega (arith, c.count) }

-- .. and the same where m were needed before and the stop number leaves k
pub counted-after : (t u : List ℕ) (k m n : ℕ) (stage : List Store) → Counted t u (k - m) 0 n stage → Counted t u k m (m + n) stage
counted-after t u k m n stage c = record { table = c.table ∙ rw sub-zero; count = omega (arith, c.count) }
