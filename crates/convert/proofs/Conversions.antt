-- A legible table is sound exactly where its conversion is, so that the judge of six-bit names answers for both; and where neither is sound,
-- converting back gives the table.
use mathlib.Core.Bool.{Bool, true, false, cond}
use mathlib.Core.List.{List}
use mathlib.Core.Logic.{◌≢◌}
use mathlib.Core.Path.{◌≡◌, refl, ◌∙◌}
use Prim.Native.Nat.{ℕ}
use native.Mathlib.Omega.{arith}
use Rattle.paper.specs.Layout.{Layout, old, six, boxed}
use Rattle.paper.specs.Table.{sized}
use Rattle.paper.specs.Sound.{sound}
use Rattle.paper.specs.Convert.{converted, converting}
use Rattle.laws.proofs.Runs.{length_run}
use Rattle.laws.proofs.Sound.{sized-whole}
use Rattle.judge.specs.Judged.{judged}
use Rattle.layouts.proofs.Lawful.{old-lawful, six-lawful}
use Rattle.layouts.proofs.Converted.{sound-converted, there_and_back}
use Rattle.layouts.proofs.Answers.{others-stay, unsound-stay, converts}
use Rattle.convert.specs.Looked.{all_legible}
use Rattle.convert.proofs.Looked.{legible-all, not-legible}

-- what a call leaves: its number, and the table
abbrev pub Done : Layout → Layout → List ℕ → ℕ → List ℕ → Type 0
Done A B t n s = (n ≡ (converting A B t).number) × (s ≡ (converting A B t).table)

done-by : (A B : Layout) (t : List ℕ) (n : ℕ) (s : List ℕ) → converting A B t ≡ record { number = n; table = s } → Done A B t n s
done-by A B t n s e = rw e (refl, refl)

pub done-unsized : (A B : Layout) (t : List ℕ) → sized t ≡ false → Done A B t 1 t
done-unsized A B t e = done-by A B t 1 t (others-stay A B t e)

-- ---- the judge's numbers

judged-none : (s : List ℕ) → sized s ≡ true → judged s ≡ 0 → sound six s ≡ true
unfolding judged
judged-none s z e = go (sound six s) (rw z at e)
  where
    go : (b : Bool) → ◌≡◌ {A = ℕ} (cond b 0 2) 0 → b ≡ true
    go true e = refl
    go false e = let z : ⊥ = omega arith in absurd z

judged-some : (s : List ℕ) → sized s ≡ true → judged s ≢ 0 → sound six s ≡ false
unfolding judged
judged-some s z e = go (sound six s) (rw z at e)
  where
    go : (b : Bool) → ◌≢◌ {A = ℕ} (cond b 0 2) 0 → b ≡ false
    go true e = absurd (e refl)
    go false e = refl

-- ---- to six-bit names

pub sized-converted : (A B : Layout) (t : List ℕ) → sized t ≡ true → sized (converted A B t) ≡ true
unfolding converted
sized-converted A B t z = rw length_run z

module _ (t : List ℕ) (z : sized t ≡ true) where
  pub done-illegible : all_legible old t ≡ false → Done old six t 2 t
  done-illegible e = done-by old six t 2 t (unsound-stay old six t z (not-legible t e))

  module _ (e : all_legible old t ≡ true) (s : List ℕ) (c : s ≡ converted old six t) where
    judged-old : sound old t ≡ sound six s
    judged-old = rw c (sound-converted old-lawful six-lawful t (sized-whole t z).0 (legible-all old t e))

    sized-there : sized s ≡ true
    sized-there = rw c (sized-converted old six t z)

    pub done-to : judged s ≡ 0 → Done old six t 0 s
    done-to q = done-by old six t 0 s (converts old six t z (judged-old ∙ judged-none s sized-there q) ∙ rw c)

    pub done-back : judged s ≢ 0 → (u : List ℕ) → u ≡ converted six old s → Done old six t 2 u
    done-back q u d =
        let f : u ≡ t = d ∙ rw c (there_and_back old-lawful six-lawful t (sized-whole t z).0 (legible-all old t e)) in
        rw f (done-by old six t 2 t (unsound-stay old six t z (judged-old ∙ judged-some s sized-there q)))

-- ---- from them

pub judged-sized : (t : List ℕ) → judged t ≡ 0 → sized t ≡ true
unfolding judged
judged-sized t e = go (sized t) e
  where
    go : (b : Bool) → ◌≡◌ {A = ℕ} (cond b (cond (sound boxed t) 0 2) 1) 0 → b ≡ true
    go true e = refl
    go false e = let z : ⊥ = omega arith in absurd z

pub done-from : (t s : List ℕ) → judged t ≡ 0 → s ≡ converted six old t → Done six old t 0 s
done-from t s e c = done-by six old t 0 s (converts six old t (judged-sized t e) (judged-none t (judged-sized t e) e) ∙ rw c)

pub done_refused : (t : List ℕ) (n : ℕ) → n ≡ judged t → n ≢ 0 → Done six old t n t
unfolding judged
done_refused t n j e = rw j (go (sized t) refl (sound six t) refl (rw j at e))
  where
    go : (z : Bool) → sized t ≡ z → (b : Bool) → sound six t ≡ b → ◌≢◌ {A = ℕ} (cond z (cond b 0 2) 1) 0
        → Done six old t (cond z (cond b 0 2) 1) t
    go false p b q e = done-unsized six old t p
    go true p false q e = done-by six old t 2 t (unsound-stay six old t p q)
    go true p true q e = absurd (e refl)
