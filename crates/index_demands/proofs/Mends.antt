-- A mend with an index judges the list's length alone and builds the index afresh: so where it answers 0 the index is the true one of a sound
-- table, whatever was lent, and after a request that was cut it answers 0 wherever its stop number covers its stores.
use mathlib.Core.Bool.{Bool, true, false, cond}
use mathlib.Core.List.{List, []}
use mathlib.Core.Logic.{◌⊎◌, inl, inr, ◌≢◌}
use mathlib.Core.Path.{◌≡◌, refl}
use Prim.Native.Nat.{ℕ}
use native.Mathlib.Omega.{arith}
use lib.Dec.{eqb, leb}
use lib.ListN.{length}
use borrow.Author.Tests.{eqb-true, eqb-false, eq-eqb, ne_eqb}
use Rattle.paper.specs.Layout.{boxed}
use Rattle.paper.specs.Table.{sized, rooms}
use Rattle.paper.specs.Check.{whole, refusal_at, verdict}
use Rattle.paper.specs.Sound.{sound}
use Rattle.paper.specs.Mend.{mend_stores, mended}
use Rattle.paper.specs.Answer.{Outcome, refusing, requested, mendable, mending}
use Rattle.paper.specs.Index.{true_index, Kept, kept_after, mend_admission, keeping, mend_keeping}
use Rattle.demands.proofs.Answered.{answered}
use Rattle.demands.proofs.MendAnswered.{mend-answered}
use Rattle.demands.proofs.Mending.{mend-sound}
use Rattle.index_laws.proofs.Truth.{index-length, true-length}
use Rattle.index_laws.proofs.Good.{Good, is_true_lem}
use Rattle.index_demands.proofs.Requests.{Ways, unfit, untrue, taken, ways}

-- the three ways of a mend with an index
pub data MendWays (t x : List ℕ) (o : Outcome) (r : Kept) : Type 0 where
  unmended : o.answer.number ≢ 0 → o.answer.number ≢ 22 → r ≡ record { outcome = o; index = x } → MendWays t x o r
  unlike : length x ≢ rooms t → r ≡ record { outcome = refusing t [] (refusal_at 26 (whole 0)); index = x } → MendWays t x o r
  mends : length x ≡ rooms t → (o.answer.number ≡ 0) ⊎ (o.answer.number ≡ 22) → r ≡ kept_after x o → MendWays t x o r

pub mend-ways : (t x : List ℕ) (k : ℕ) → MendWays t x (mending boxed t k) (mend_keeping t x k)
unfolding mend_keeping mend_admission mending mendable verdict
mend-ways t x k = go (sized t) refl (sound boxed (mended t)) refl (eqb (length x) (rooms t)) refl (leb (length (mend_stores t)) k) refl
  where
    go : (a : Bool) → sized t ≡ a → (b : Bool) → sound boxed (mended t) ≡ b → (c : Bool) → eqb (length x) (rooms t) ≡ c → (d : Bool) → leb (length (mend_stores t)) k ≡ d
        → MendWays t x (mending boxed t k) (mend_keeping t x k)
    go false p b q c r d w = unmended (rw p (λ z. omega (arith, z))) (rw p (λ z. omega (arith, z))) (rw p)
    go true p false q c r d w = unmended (rw (p, q) (λ z. omega (arith, z))) (rw (p, q) (λ z. omega (arith, z))) (rw (p, q))
    go true p true q false r d w = unlike (eqb-false _ _ r) (rw (p, q, r))
    go true p true q true r true w = mends (eqb-true _ _ r) (inl (rw (p, q, w))) (rw (p, q, r))
    go true p true q true r false w = mends (eqb-true _ _ r) (inr (rw (p, q, w))) (rw (p, q, r))

module _ (t x : List ℕ) (k : ℕ) where
  abbrev healed : Kept
  healed = mend_keeping t x k

  -- "mending judges only the length": a list of the right length, whatever it holds, is mended as before
  pub length-alone : length x ≡ rooms t → healed.outcome ≡ mending boxed t k
  length-alone l = go (mend-ways t x k)
    where
      go : MendWays t x (mending boxed t k) healed → healed.outcome ≡ mending boxed t k
      go (unmended a b q) = rw q
      go (unlike n q) = absurd (n l)
      go (mends m n q) = rw q

  -- "the mend that follows builds it afresh"
  pub mend-any : healed.outcome.answer.number ≡ 0 → Good healed.outcome.table healed.index
  mend-any e = go (mend-ways t x k)
    where
      afresh : (mending boxed t k).answer.number ≡ 0
          → Good (mending boxed t k).table (cond (eqb (mending boxed t k).answer.number 22) x (true_index (mending boxed t k).table))
      afresh z =
          let s = mend-sound t k z in
          rw (ne_eqb (mending boxed t k).answer.number 22 (λ (y : (mending boxed t k).answer.number ≡ 22). omega arith))
          (record { sized = s.0; sound = s.1; index = is_true_lem (mending boxed t k).table })

      go : MendWays t x (mending boxed t k) healed → Good healed.outcome.table healed.index
      go (unmended a b q) = absurd (a (rw q at e))
      go (unlike n q) = let z : ⊥ = omega (arith, rw q at e) in absurd z
      go (mends m n q) = rw q (afresh (rw q at e))

  -- on every other number the index is as lent
  pub mend-as-lent : healed.outcome.answer.number ≢ 0 → healed.index ≡ x
  mend-as-lent e = go (mend-ways t x k)
    where
      go : MendWays t x (mending boxed t k) healed → healed.index ≡ x
      go (unmended a b q) = rw q
      go (unlike n q) = rw q
      go (mends m (inl n) q) = absurd (e (rw q n))
      go (mends m (inr n) q) = rw (q, eq-eqb (mending boxed t k).answer.number 22 n)

module _ (t x : List ℕ) where
  -- what is left of a sound table and its true index by a request, cut or whole, has a place for each record
  pub kept-length : (line text reply : List ℕ) (u k : ℕ) → Good t x
      → length (keeping t x line text reply u k).index ≡ rooms (keeping t x line text reply u k).outcome.table
  kept-length line text reply u k g = go (ways t x line text reply u k)
    where
      before : Outcome
      before = requested boxed t line text reply u k

      same-rooms : rooms before.table ≡ rooms t
      same-rooms = rw (answered t line text reply u k).table

      cut : (b : Bool) → length (cond b x (true_index before.table)) ≡ rooms before.table
      cut true = rw same-rooms (true-length t x g.index)
      cut false = index-length before.table

      go : Ways t x reply before (keeping t x line text reply u k)
          → length (keeping t x line text reply u k).index ≡ rooms (keeping t x line text reply u k).outcome.table
      go (unfit f q) = rw (q, same-rooms) (true-length t x g.index)
      go (untrue f h q) = rw q (true-length t x g.index)
      go (taken h q) = rw q (cut (eqb before.answer.number 22))

  -- .. and so has what a mend leaves of a list that had one
  pub mend-length : (k : ℕ) → length x ≡ rooms t → length (mend_keeping t x k).index ≡ rooms (mend_keeping t x k).outcome.table
  mend-length k l = go (mend-ways t x k)
    where
      after : Outcome
      after = mending boxed t k

      same-rooms : rooms after.table ≡ rooms t
      same-rooms = rw (mend-answered t k).size

      cut : (b : Bool) → length (cond b x (true_index after.table)) ≡ rooms after.table
      cut true = rw same-rooms l
      cut false = index-length after.table

      go : MendWays t x after (mend_keeping t x k) → length (mend_keeping t x k).index ≡ rooms (mend_keeping t x k).outcome.table
      go (unmended a b q) = rw (q, same-rooms) l
      go (unlike n q) = absurd (n l)
      go (mends m n q) = rw q (cut (eqb after.answer.number 22))
