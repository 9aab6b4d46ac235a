-- Demand 1 for mending, for every table and stop number: it goes one of four ways, by the two checks and the count of its stores.
-- Each way is one line of the definition, with its number, its table and its count written there.
use mathlib.Core.Bool.{Bool, true, false}
use mathlib.Core.List.{List, []}
use mathlib.Core.Logic.{◌⊎◌, inl, inr, ◌≢◌}
use mathlib.Core.Path.{◌≡◌, refl}
use Prim.Native.Nat.{ℕ, ◌≤◌, ◌<◌}
use native.Mathlib.Omega.{arith}
use lib.ListN.{length, take}
use lib.Dec.{leb}
use borrow.Author.Tests.{leb-true, leb-false}
use Rattle.paper.specs.Layout.{boxed}
use Rattle.paper.specs.Table.{sized}
use Rattle.paper.specs.Check as paper
use Rattle.paper.specs.Check.{refusal_at, verdict}
use Rattle.paper.specs.Sound.{sound}
use Rattle.paper.specs.Store.{run}
use Rattle.paper.specs.Mend.{mend_stores, mended}
use Rattle.paper.specs.Answer.{Outcome, plain, refusing, mendable, mending}
use Rattle.laws.proofs.Runs.{length_run}

-- the four ways of a mending: 1, 2, 0 and 22
pub data MendCame (t : List ℕ) (k : ℕ) (o : Outcome) : Type 0 where
  unsized : sized t ≡ false → o ≡ refusing t [] (refusal_at 1 (paper.whole 0)) → MendCame t k o
  unsound : sized t ≡ true → sound boxed (mended t) ≡ false → o ≡ refusing t [] (refusal_at 2 (paper.whole 0)) → MendCame t k o
  whole : sized t ≡ true → sound boxed (mended t) ≡ true → length (mend_stores t) ≤ k
      → o ≡ record { answer = plain 0 (paper.whole 0) 0 (length (mend_stores t)); table = mended t; reply = [] } → MendCame t k o
  cut_off : sized t ≡ true → sound boxed (mended t) ≡ true → k < length (mend_stores t)
      → o ≡ record { answer = plain 22 (paper.whole 0) 0 k; table = run t (take k (mend_stores t)); reply = [] } → MendCame t k o

pub mend-came : (t : List ℕ) (k : ℕ) → MendCame t k (mending boxed t k)
unfolding mending mendable verdict mended
mend-came t k = go (sized t) refl (sound boxed (mended t)) refl (leb (length (mend_stores t)) k) refl
  where
    go : (a : Bool) → sized t ≡ a → (b : Bool) → sound boxed (mended t) ≡ b → (c : Bool) → leb (length (mend_stores t)) k ≡ c → MendCame t k (mending boxed t k)
    go false p b q c r = unsized p (rw p)
    go true p false q c r = unsound p q (rw (p, q))
    go true p true q true r = whole p q (leb-true _ _ r) (rw (p, q, r))
    go true p true q false r = cut_off p q (leb-false _ _ r) (rw (p, q, r))

-- what every mending keeps: "Its answer has place, names and bytes 0, displaced no, and the stores made"
pub record MendAnswered (t : List ℕ) (k : ℕ) (o : Outcome) : Type 0 where
  pub number : ((o.answer.number ≡ 0) ⊎ (o.answer.number ≡ 1)) ⊎ ((o.answer.number ≡ 2) ⊎ (o.answer.number ≡ 22))
  pub zeros : (o.answer.place ≡ paper.whole 0) × (o.answer.names ≡ 0) × (o.answer.displaced ≡ 0) × (o.answer.bytes ≡ 0)
  pub reply : o.reply ≡ []
  pub size : length o.table ≡ length t
  pub lent : o.answer.number ≢ 0 → o.answer.number ≢ 22 → (o.table ≡ t) × (o.answer.stores ≡ 0)
  pub stop : o.answer.number ≡ 22 → (o.table ≡ run t (take k (mend_stores t))) × (o.answer.stores ≡ k)

mend-plain : (t : List ℕ) (k n s : ℕ) (t₁ : List ℕ) → ((n ≡ 0) ⊎ (n ≡ 1)) ⊎ ((n ≡ 2) ⊎ (n ≡ 22)) → length t₁ ≡ length t
    → (n ≢ 0 → n ≢ 22 → (t₁ ≡ t) × (s ≡ 0)) → (n ≡ 22 → (t₁ ≡ run t (take k (mend_stores t))) × (s ≡ k))
    → MendAnswered t k (record { answer = plain n (paper.whole 0) 0 s; table = t₁; reply = [] })
mend-plain t k n s t₁ a b c d =
    record { number = a; zeros = (refl, refl, refl, refl); reply = refl; size = b; lent = c; stop = d }

pub mend-answered : (t : List ℕ) (k : ℕ) → MendAnswered t k (mending boxed t k)
unfolding mended
mend-answered t k = go (mending boxed t k) (mend-came t k)
  where
    never : {X : Type 0} (n : ℕ) → n < 22 → n ≡ 22 → X
    never n l e = let z : ⊥ = omega arith in absurd z

    go : (o : Outcome) → MendCame t k o → MendAnswered t k o
    go o (unsized p e) = rw e (mend-plain t k 1 0 t (inl (inr refl)) refl (λ _ _. (refl, refl)) (never 1 (omega arith)))
    go o (unsound p q e) = rw e (mend-plain t k 2 0 t (inr (inl refl)) refl (λ _ _. (refl, refl)) (never 2 (omega arith)))
    go o (whole p q l e) =
        rw e (mend-plain t k 0 _ _ (inl (inl refl)) (length_run t (mend_stores t)) (λ n _. absurd (n refl)) (never 0 (omega arith)))
    go o (cut_off p q l e) =
        rw e (mend-plain t k 22 k _ (inr (inr refl)) (length_run t (take k (mend_stores t))) (λ _ n. absurd (n refl)) (λ _. (refl, refl)))
