-- Numbers 1, 2 and 3 in order: the judge's number where it refuses, and else the user's.
-- Where none refuses the table is fit.
use mathlib.Core.Bool.{Bool, true, false, not, cond}
use mathlib.Core.List.{List, [], ◌∷◌}
use mathlib.Core.Path.{◌≡◌, refl, sym, ap, ◌∙◌}
use Prim.Native.Nat.{ℕ, ◌≤◌, ◌<◌}
use native.Mathlib.Omega.{arith}
use lib.Dec.{ltb}
use borrow.Author.Tests.{lt-ltb, le-ltb}
use Rattle.paper.specs.Layout.{boxed}
use Rattle.paper.specs.Check.{Refusal, whole, refusal_at, Verdict, passed, check, verdict}
use Rattle.paper.specs.Table.{sized}
use Rattle.paper.specs.Sound.{sound}
use Rattle.paper.specs.Answer.{entrance}
use Rattle.judge.specs.Judged.{judged}
use Rattle.elephant.specs.Done.{Fit}
use Rattle.answers.specs.Shown.{verdict_shown}
use Rattle.std.specs.Prelude.{Result, Ok, Err}
use Rattle.laws.proofs.Tests.{clash}
use Rattle.elephant.proofs.Verdicts.{passed-by}

abbrev three : Bool → Bool → Bool → Verdict
three a b c = verdict (check (not a) 1 (whole 0) ∷ check (not b) 2 (whole 0) ∷ check c 3 (whole 0) ∷ [])

abbrev refusal : ℕ → Refusal
refusal n = refusal_at n (whole 0)

three-judged : (a b c : Bool) (n : ℕ) → n ≡ cond a (cond b 0 2) 1 → (n ≡ 0 → ⊥) → Err (refusal n) ≡ verdict_shown (three a b c)
unfolding verdict
three-judged true true c n e h = absurd (h e)
three-judged true false c n e h = rw e
three-judged false b c n e h = rw e

three-user : (a b c : Bool) (n : ℕ) → n ≡ cond a (cond b 0 2) 1 → n ≡ 0 → cond c (Err (refusal 3)) (Ok tt) ≡ verdict_shown (three a b c)
unfolding verdict
three-user true true true n e h = refl
three-user true true false n e h = refl
three-user true false c n e h = let z : ⊥ = omega arith in absurd z
three-user false b c n e h = let z : ⊥ = omega arith in absurd z

abbrev user_by : Bool → Result (Unit {0}) Refusal
user_by b = cond b (Err (refusal 3)) (Ok tt)

module _ (t : List ℕ) (u n : ℕ) (e : n ≡ judged t) where
  pub entered-judged : (n ≡ 0 → ⊥) → Err (refusal n) ≡ verdict_shown (entrance boxed t u)
  unfolding entrance judged
  entered-judged h = three-judged (sized t) (sound boxed t) (ltb 999999 u) n e h

  pub entered-over : n ≡ 0 → 999999 < u → Err (refusal 3) ≡ verdict_shown (entrance boxed t u)
  unfolding entrance judged
  entered-over h l = sym (ap user_by (lt-ltb 999999 u l)) ∙ three-user (sized t) (sound boxed t) (ltb 999999 u) n e h

  pub entered-user : n ≡ 0 → u ≤ 999999 → Ok tt ≡ verdict_shown (entrance boxed t u)
  unfolding entrance judged
  entered-user h l = sym (ap user_by (le-ltb 999999 u l)) ∙ three-user (sized t) (sound boxed t) (ltb 999999 u) n e h

-- ---- what follows

pub record Entered (t : List ℕ) (u : ℕ) : Type 0 where
  pub fit : Fit t
  pub passed : entrance boxed t u ≡ passed

three-passed : (a b c : Bool) → three a b c ≡ passed → (a ≡ true) × (b ≡ true) × (c ≡ false)
unfolding verdict
three-passed true true false e = (refl, refl, refl)
three-passed true true true e = clash (cc)
three-passed true false c e = clash (cc)
three-passed false b c e = clash (cc)

pub entered : (t : List ℕ) (u : ℕ) (o : Unit {0}) → Ok o ≡ verdict_shown (entrance boxed t u) → Entered t u
unfolding entrance
entered t u o e =
    let q = passed-by (entrance boxed t u) o e in
    let p = three-passed (sized t) (sound boxed t) (ltb 999999 u) q in
    record { fit = record { sized = p.0; sound = p.1 }; passed = q }
