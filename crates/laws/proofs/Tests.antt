-- Boolean tests as facts: each law goes by the cases of the Booleans that it speaks of.
-- Callers turn a computed test into an equation with true or false, and back, by these and by `borrow.Author.Tests`.
use mathlib.Core.Bool.{Bool, true, false, ◌&&◌, ◌||◌, cond, true≢false}
use mathlib.Core.List.{List, [], ◌∷◌}
use mathlib.Core.Logic.{◌⊎◌, inl, inr}
use mathlib.Core.Path.{◌≡◌, refl, sym, ◌∙◌}
use Prim.Native.Nat.{ℕ, zero, suc}
use native.Mathlib.Omega.{arith}
use lib.ListN.{get_or}
use Rattle.paper.specs.Sound.{implies}

-- a test is true or false, with the equation
pub truth : (b : Bool) → (b ≡ true) ⊎ (b ≡ false)
truth true = inl refl
truth false = inr refl

-- it is not both
pub not-both : {b : Bool} → b ≡ true → b ≡ false → ⊥
not-both e f = true≢false (sym e ∙ f)

-- not true is false, and not false is true
pub false-by : (b : Bool) → (b ≡ true → ⊥) → b ≡ false
false-by true h = absurd (h refl)
false-by false h = refl

pub true-by : (b : Bool) → (b ≡ false → ⊥) → b ≡ true
true-by true h = refl
true-by false h = absurd (h refl)

pub and_left : (a b : Bool) → (a && b) ≡ true → a ≡ true
and_left true b e = refl
and_left false b e = e

pub and_right : (a b : Bool) → (a && b) ≡ true → b ≡ true
and_right true b e = e
and_right false b e = absurd (true≢false (sym e))

pub and_both : (a b : Bool) → a ≡ true → b ≡ true → (a && b) ≡ true
and_both a b p q = rw (p, q)

pub and-no-left : (a b : Bool) → a ≡ false → (a && b) ≡ false
and-no-left a b p = rw p

pub and-no-right : (a b : Bool) → b ≡ false → (a && b) ≡ false
and-no-right true b p = p
and-no-right false b p = refl

pub or_cases : (a b : Bool) → (a || b) ≡ true → (a ≡ true) ⊎ (b ≡ true)
or_cases true b e = inl refl
or_cases false b e = inr e

pub or_left : (a b : Bool) → a ≡ true → (a || b) ≡ true
or_left a b p = rw p

pub or_right : (a b : Bool) → b ≡ true → (a || b) ≡ true
or_right true b p = refl
or_right false b p = p

pub or-none : (a b : Bool) → a ≡ false → b ≡ false → (a || b) ≡ false
or-none a b p q = rw (p, q)

pub or-no-left : (a b : Bool) → (a || b) ≡ false → a ≡ false
or-no-left true b e = e
or-no-left false b e = refl

pub or-no-right : (a b : Bool) → (a || b) ≡ false → b ≡ false
or-no-right true b e = absurd (true≢false e)
or-no-right false b e = e

pub implies-use : (a b : Bool) → implies a b ≡ true → a ≡ true → b ≡ true
implies-use true b e q = e
implies-use false b e q = absurd (true≢false (sym q))

pub implies-by : (a b : Bool) → (a ≡ true → b ≡ true) → implies a b ≡ true
implies-by true b h = h refl
implies-by false b h = refl

-- both parts of a conjunction
pub and_parts : (a b : Bool) → (a && b) ≡ true → (a ≡ true) × (b ≡ true)
and_parts a b e = (and_left a b e, and_right a b e)

-- tests joined by `&&`, the first first: each of them passes if all do
unfoldable pub joined : Bool → List Bool → Bool
joined a [] = a
joined a (b ∷ s) = joined (a && b) s

pub joined-first : (a : Bool) (s : List Bool) → joined a s ≡ true → a ≡ true
unfolding joined
joined-first a [] e = e
joined-first a (b ∷ s) e = and_left a b (joined-first (a && b) s e)

pub joined-part : (a : Bool) (s : List Bool) (i : ℕ) → joined a s ≡ true → get_or s i true ≡ true
unfolding joined
joined-part a [] i e = refl
joined-part a (b ∷ s) zero e = and_right a b (joined-first (a && b) s e)
joined-part a (b ∷ s) (suc i) e = joined-part (a && b) s i e

-- two tests that pass together are equal
pub same_truth : (a b : Bool) → (a ≡ true → b ≡ true) → (b ≡ true → a ≡ true) → a ≡ b
same_truth true b f g = sym (f refl)
same_truth false true f g = absurd (true≢false (sym (g refl)))
same_truth false false f g = refl

-- either way, what holds of both
pub either {ℓ} : {A : Type ℓ} (P : A → Type 0) (b : Bool) (x y : A) → P x → P y → P (cond b x y)
either P true x y p q = p
either P false x y p q = q

-- two constructors are never equal: `cc` makes 0 and 1 of them
pub clash : {X : Type 0} → ◌≡◌ {A = ℕ} 0 1 → X
clash e = let z : ⊥ = omega arith in absurd z
