-- Where mending ends: it judges the uncut result first, so what it answers 0 or 22 on has a sound end, and a mend cut anywhere
-- has the end of the table that it began with; a sound table has nothing to mend.
pub mod Wipe
pub mod Part
pub mod Counts
pub mod Less
pub mod Settled
pub mod Squeeze
pub mod Debris
pub mod Again
-- a table of document 01
pub mod Updated
use mathlib.Core.Bool.{true, false}
use mathlib.Core.List.{List, []}
use mathlib.Core.Logic.{◌⊎◌, inl, inr}
use mathlib.Core.Path.{◌≡◌, refl, sym, ◌∙◌}
use Prim.Native.Nat.{ℕ, ◌≤◌}
use native.Mathlib.Omega.{arith}
use lib.ListN.{length}
use lib.Dec.{leb}
use borrow.Author.Tests.{eqb-true, le-leb}
use Rattle.paper.specs.Layout.{boxed}
use Rattle.paper.specs.Table.{sized}
use Rattle.paper.specs.Check as paper
use Rattle.paper.specs.Check.{Verdict, passed, refused, verdict}
use Rattle.paper.specs.Sound.{counts_true, sound}
use Rattle.paper.specs.Store.{run}
use Rattle.paper.specs.Mend.{cleared, mend_stores, mended}
use Rattle.paper.specs.Answer.{Outcome, plain, mendable, mend_run, mending}
use Rattle.laws.proofs.Tests.{truth, and_left}
use Rattle.laws.proofs.Lay.{Whole}
use Rattle.laws.proofs.Runs.{length_run}
use Rattle.demands.proofs.Sound.Right.{sound-right}
use Rattle.demands.proofs.Mending.Wipe.{mended-is}
use Rattle.demands.proofs.Mending.Counts.{recounts-true}
use Rattle.demands.proofs.Mending.Debris.{nothing-to-mend, mended-kept, sound-keeps}
use Rattle.demands.proofs.Mending.Again.{again, mended-twice}
use Rattle.demands.proofs.MendAnswered.{MendCame, unsized, unsound, whole, cut_off, mend-came, mend-answered}

-- after every mend the counts are true
pub mended-true : (t : List ℕ) → counts_true (mended t) ≡ true
mended-true t = rw (mended-is t) (recounts-true (cleared t))

-- a mend that is not cut
abbrev pub mended_whole : List ℕ → Outcome
mended_whole t = record { answer = plain 0 (paper.whole 0) 0 (length (mend_stores t)); table = mended t; reply = [] }

-- where the end is sound and the stop number covers the stores, it answers 0
pub mend-whole : (t : List ℕ) (k : ℕ) → sized (mended t) ≡ true → sound boxed (mended t) ≡ true → length (mend_stores t) ≤ k
    → mending boxed t k ≡ mended_whole t
unfolding mending mendable verdict mended
mend-whole t k s e l = let z : sized t ≡ true = rw length_run at s in rw (z, e, le-leb _ _ l)

sized-mended : (t : List ℕ) → sized t ≡ true → sized (mended t) ≡ true
unfolding mended
sized-mended t a = rw length_run a

-- what mending answers 0 on is sound
pub mend-sound : (t : List ℕ) (k : ℕ) → (mending boxed t k).answer.number ≡ 0
    → (sized (mending boxed t k).table ≡ true) × (sound boxed (mending boxed t k).table ≡ true)
mend-sound t k z = go (mend-came t k)
  where
    go : MendCame t k (mending boxed t k) → (sized (mending boxed t k).table ≡ true) × (sound boxed (mending boxed t k).table ≡ true)
    go (unsized a e) = let n : ⊥ = omega (arith, rw e at z) in absurd n
    go (unsound a b e) = let n : ⊥ = omega (arith, rw e at z) in absurd n
    go (whole a b l e) = rw e (sized-mended t a, b)
    go (cut_off a b l e) = let n : ⊥ = omega (arith, rw e at z) in absurd n

-- a sound table is left as it is, with no store, whatever the stop number
pub mend-nothing : (t : List ℕ) (k : ℕ) → sized t ≡ true → sound boxed t ≡ true
    → mending boxed t k ≡ record { answer = plain 0 (paper.whole 0) 0 0; table = t; reply = [] }
unfolding mending mendable verdict run
mend-nothing t k s e =
    let c = sound-keeps t (sound-right t s e) in
    rw (mended-kept t c, s, e, nothing-to-mend t c, le-leb 0 k (omega arith))

-- the table and the number where the stop number is not reached
abbrev end : Verdict → List ℕ → List ℕ
end passed t = mended t
end (refused f) t = t

abbrev number_of : Verdict → ℕ
number_of passed = 0
number_of (refused f) = f.number

uncut : (t : List ℕ) (k : ℕ) → ((mending boxed t k).answer.number ≡ 22 → ⊥)
    → ((mending boxed t k).table ≡ end (mendable boxed t) t) × ((mending boxed t k).answer.number ≡ number_of (mendable boxed t))
unfolding mending mended
uncut t k = go (mendable boxed t) (truth (leb (length (mend_stores t)) k))
  where
    go : (v : Verdict) → (leb (length (mend_stores t)) k ≡ true) ⊎ (leb (length (mend_stores t)) k ≡ false)
        → ((mend_run t k (mend_stores t) v).answer.number ≡ 22 → ⊥)
        → ((mend_run t k (mend_stores t) v).table ≡ end v t) × ((mend_run t k (mend_stores t) v).answer.number ≡ number_of v)
    go (refused f) c z = (refl, refl)
    go passed (inl c) z = (rw c, rw c)
    go passed (inr c) z = absurd (z (rw c))

-- a stop number that covers the stores is not reached
pub mend-enough : (t : List ℕ) (k : ℕ) → length (mend_stores t) ≤ k → (mending boxed t k).answer.number ≡ 22 → ⊥
mend-enough t k l z = go (mend-came t k)
  where
    go : MendCame t k (mending boxed t k) → ⊥
    go (unsized a e) = omega (arith, rw e at z)
    go (unsound a b e) = omega (arith, rw e at z)
    go (whole a b m e) = omega (arith, rw e at z)
    go (cut_off a b m e) = omega arith

module _ (t : List ℕ) (k : ℕ) where
  -- a mend cut anywhere has the end of the table that it began with
  pub mended-again : mended (mending boxed t k).table ≡ mended t
  mended-again = go (mend-came t k)
    where
      size : sized t ≡ true → Whole t
      size a = eqb-true _ _ (and_left _ _ a)

      go : MendCame t k (mending boxed t k) → mended (mending boxed t k).table ≡ mended t
      go (unsized a e) = rw e
      go (unsound a b e) = rw e
      go (whole a b m e) = rw e (mended-twice t (size a))
      go (cut_off a b m e) = rw e (again t (size a) k)

  same-verdict : mendable boxed (mending boxed t k).table ≡ mendable boxed t
  unfolding mendable verdict
  same-verdict = rw ((mend-answered t k).size, mended-again)

  same_end : end (mendable boxed t) (mending boxed t k).table ≡ end (mendable boxed t) t
  same_end = go (mendable boxed t) refl
    where
      go : (v : Verdict) → mendable boxed t ≡ v → end v (mending boxed t k).table ≡ end v t
      go passed e = mended-again
      go (refused f) e = unfold mending in rw e

-- "a mend cut anywhere and run again ends as an uncut one"
pub mend-again : (t : List ℕ) (k k₁ k₂ : ℕ)
    → ((mending boxed (mending boxed t k).table k₁).answer.number ≡ 22 → ⊥) → ((mending boxed t k₂).answer.number ≡ 22 → ⊥)
    → ((mending boxed (mending boxed t k).table k₁).table ≡ (mending boxed t k₂).table)
    × ((mending boxed (mending boxed t k).table k₁).answer.number ≡ (mending boxed t k₂).answer.number)
mend-again t k k₁ k₂ a b =
    let u = uncut (mending boxed t k).table k₁ a in
    let v = uncut t k₂ b in
    (u.0 ∙ rw (same-verdict t k) (same_end t k) ∙ sym v.0, u.1 ∙ rw (same-verdict t k) (sym v.1))
