-- The number of a list that is not true: the judge's where it is not 0, and else 26.
-- The judge answers 1, 2 or 0 by the same two tests.
use mathlib.Core.Bool.{Bool, true, false, cond}
use mathlib.Core.List.{List}
use mathlib.Core.Path.{◌≡◌, refl, sym, ◌∙◌}
use Prim.Native.Nat.{ℕ}
use native.Mathlib.Omega.{arith}
use Rattle.paper.specs.Layout.{boxed}
use Rattle.paper.specs.Table.{sized}
use Rattle.paper.specs.Sound.{sound}
use Rattle.std.specs.Prelude.{Result, Ok, Err}
use Rattle.std.specs.Result.{result_unwrap_or}
use Rattle.answers.specs.Number.{number_of, Decodes}
use Rattle.answers.specs.declared.number.Number.{Number}
use Rattle.answers.specs.declared.number.Number.TheVariants.{IndexUntrue}
use Rattle.answers.specs.declared.number.NoRefusal.{NoRefusal}
use Rattle.judge.specs.Judged.{judged}
use Rattle.judge.proofs.Numbers.{judged-none}
use Rattle.indexed.specs.Refused.{refused_with}

pub number-before : (t : List ℕ) (n : ℕ) → n ≡ judged t → (n ≡ 0 → ⊥) → n ≡ refused_with t
unfolding judged refused_with
number-before t n e h = go (sized t) (sound boxed t) e
  where
    go : (a b : Bool) → n ≡ cond a (cond b 0 2) 1 → n ≡ cond a (cond b 26 2) 1
    go true true q = absurd (h q)
    go true false q = q
    go false b q = q

pub number-26 : (t : List ℕ) (n : ℕ) → n ≡ judged t → n ≡ 0 → refused_with t ≡ 26
unfolding judged refused_with
number-26 t n e h = go (sized t) (sound boxed t) e
  where
    go : (a b : Bool) → n ≡ cond a (cond b 0 2) 1 → ◌≡◌ {A = ℕ} (cond a (cond b 26 2) 1) 26
    go true true q = refl
    go true false q = let z : ⊥ = omega (arith, q, h) in absurd z
    go false b q = let z : ⊥ = omega (arith, q, h) in absurd z

-- as a number of the list: the judge's is one, unless it is 0
pub number-refused : (t : List ℕ) (n : ℕ) (r : Result Number NoRefusal) → n ≡ judged t → Decodes n r
    → number_of (result_unwrap_or r IndexUntrue) ≡ refused_with t
number-refused t n (Ok k) e d = d.0 ∙ number-before t n e (λ z. omega (arith, d.1))
number-refused t n (Err x) e d = sym (number-26 t n e (judged-none t n e d))
