-- A list of the right length asks nothing more of a mend, and where it is done the table is sound and the repaired list its true index. With another
-- length the mend with stop number 0, which makes no store, tells 1 and 2; else it is 26.
use mathlib.Core.Bool.{Bool, true, false}
use mathlib.Core.List.{List, []}
use mathlib.Core.Logic.{◌⊎◌, inl, inr, ◌≢◌}
use mathlib.Core.Path.{◌≡◌, refl, sym, ap, ◌∙◌}
use Prim.Native.Nat.{ℕ, zero, suc, ◌/◌, ◌<◌}
use native.Mathlib.Omega.{arith}
use lib.Dec.{eqb, leb}
use lib.ListN.{length}
use borrow.Author.Tests.{ne_eqb}
use Rattle.paper.specs.Layout.{boxed}
use Rattle.paper.specs.Check as check
use Rattle.paper.specs.Check.{refusal_at, verdict}
use Rattle.paper.specs.Table.{sized, rooms}
use Rattle.paper.specs.Sound.{sound}
use Rattle.paper.specs.Mend.{mend_stores, mended}
use Rattle.paper.specs.Answer.{Outcome, plain, refusing, mending, mendable}
use Rattle.paper.specs.Index.{true_index, Kept, mend_admission, mend_keeping}
use Rattle.answers.specs.Shown.{shown}
use Rattle.answers.specs.declared.Answer.{Answer}
use Rattle.answers.specs.Promised.{Promised, Keeps}
use Rattle.demands.proofs.MendAnswered.{MendCame, unsized, unsound, whole, cut_off, mend-came, mend-answered}
use Rattle.index_laws.proofs.Good.{Good, true-index}
use Rattle.index_demands.proofs.Mends.{length-alone, mend-any, mend-as-lent}
use Rattle.indexed.proofs.Unstored.{run_none, take_none}
use Rattle.indexed.proofs.Requests.{Ready, ready}

pub one_or_two : (n : ℕ) → 0 < n → n < 3 → (n ≡ 1) ⊎ (n ≡ 2)
one_or_two zero a b = let z : ⊥ = omega arith in absurd z
one_or_two (suc zero) a b = inl refl
one_or_two (suc (suc zero)) a b = inr refl
one_or_two (suc (suc (suc n))) a b = let z : ⊥ = omega arith in absurd z

module _ (t x : List ℕ) (k : ℕ) where
  abbrev healed : Kept
  healed = mend_keeping t x k

  -- ---- a list of the right length

  module _ (l : length x ≡ rooms t) (r : Answer) (v : List ℕ) (p : Promised (mending boxed t k) r v []) where
    keeps-by : (y : List ℕ) → y ≡ healed.index → Keeps healed r v y []
    keeps-by y q = record { promised = rw (length-alone t x k l) p; index = q }

    -- not done: as lent
    pub keeps-lent : r.number ≢ 0 → Keeps healed r v x []
    keeps-lent n =
        keeps-by x (sym (mend-as-lent t x k (rw (length-alone t x k l) (λ m. n (ap (λ a. a.number) p.answer ∙ m)))))

    module _ (n : r.number ≡ 0) where
      after : Good v healed.index
      after =
          rw (p.table, sym (length-alone t x k l))
          (mend-any t x k (rw (length-alone t x k l) (sym (ap (λ a. a.number) p.answer) ∙ n)))

      pub mend-ready : Ready v x
      mend-ready = ready v x after.sized after.sound (l ∙ ap (λ i. i / 32) (sym (mend-answered t k).size ∙ ap length (sym p.table)))

      -- "the mend that follows builds it afresh"
      pub keeps-afresh : (y : List ℕ) → y ≡ true_index v → Keeps healed r v y []
      keeps-afresh y q = keeps-by y (q ∙ sym (true-index v healed.index after.index))

  -- ---- a list of another length

  abbrev none : Outcome
  none = mending boxed t 0

  none-still : none.table ≡ t
  unfolding mended
  none-still = go (mend-came t 0)
    where
      go : MendCame t 0 none → none.table ≡ t
      go (unsized p e) = rw e
      go (unsound p q e) = rw e
      go (whole p q m e) = rw e (run_none t (mend_stores t) (omega (arith, m)))
      go (cut_off p q m e) = rw e (take_none t 0 (mend_stores t) refl)

  -- 1 and 2 are told, and else it is 26
  data ShortWays : Type 0 where
    told : (none.answer.number ≡ 1) ⊎ (none.answer.number ≡ 2) → healed ≡ record { outcome = none; index = x } → ShortWays
    late : none.answer.number ≢ 1 → none.answer.number ≢ 2
        → healed ≡ record { outcome = refusing t [] (refusal_at 26 (check.whole 0)); index = x } → ShortWays

  short-ways : length x ≢ rooms t → ShortWays
  unfolding mend_keeping mend_admission mending mendable verdict
  short-ways l = go (sized t) refl (sound boxed (mended t)) refl (leb (length (mend_stores t)) 0) refl
    where
      short : eqb (length x) (rooms t) ≡ false
      short = ne_eqb _ _ l

      go : (a : Bool) → sized t ≡ a → (b : Bool) → sound boxed (mended t) ≡ b → (d : Bool) → leb (length (mend_stores t)) 0 ≡ d → ShortWays
      go false p b q d w = told (inl (rw p)) (rw p)
      go true p false q d w = told (inr (rw (p, q))) (rw (p, q))
      go true p true q true w = late (rw (p, q, w) (λ z. omega (arith, z))) (rw (p, q, w) (λ z. omega (arith, z))) (rw (p, q, short))
      go true p true q false w = late (rw (p, q, w) (λ z. omega (arith, z))) (rw (p, q, w) (λ z. omega (arith, z))) (rw (p, q, short))

  module _ (l : length x ≢ rooms t) (a : Answer) (v : List ℕ) (p : Promised none a v []) where
    same_number : none.answer.number ≡ a.number
    same_number = sym (ap (λ b. b.number) p.answer)

    pub keeps-told : (a.number ≡ 1) ⊎ (a.number ≡ 2) → Keeps healed a v x []
    keeps-told h = go (short-ways l)
      where
        neither : a.number ≢ 1 → a.number ≢ 2 → (a.number ≡ 1) ⊎ (a.number ≡ 2) → ⊥
        neither b c (inl e) = b e
        neither b c (inr e) = c e

        go : ShortWays → Keeps healed a v x []
        go (told b q) = rw q (record { promised = p; index = refl })
        go (late b c q) = absurd (neither (λ e. b (same_number ∙ e)) (λ e. c (same_number ∙ e)) h)

    pub keeps-26 : a.number ≢ 1 → a.number ≢ 2 → (r : Answer) → r ≡ shown (plain 26 (check.whole 0) 0 0) → Keeps healed r v x []
    keeps-26 b c r q = go (short-ways l)
      where
        neither : (none.answer.number ≡ 1) ⊎ (none.answer.number ≡ 2) → ⊥
        neither (inl e) = b (sym same_number ∙ e)
        neither (inr e) = c (sym same_number ∙ e)

        go : ShortWays → Keeps healed r v x []
        go (told h z) = absurd (neither h)
        go (late _ _ z) = rw z (record { promised = record { answer = q; table = p.table ∙ none-still; reply = refl }; index = refl })
