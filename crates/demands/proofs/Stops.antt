-- The stop number matters only where it is reached: a plan is the same at every stop number, and whole wherever it is not cut, so two
-- outcomes that are not 22 are one. So the table after a request is one table, whatever the stop number that is not reached.
use mathlib.Core.List.{List, [], ◌∷◌}
use mathlib.Core.Logic.{by_cases}
use mathlib.Core.Path.{◌≡◌, refl, sym, ◌∙◌}
use Prim.Native.Nat.{ℕ, ◌+◌, ◌-◌, ◌≤◌}
use native.Mathlib.Omega.{arith}
use native.Mathlib.Decide.{dec_le}
use lib.ListN.{length}
use Rattle.paper.specs.Layout.{boxed}
use Rattle.paper.specs.Line.{Word}
use Rattle.paper.specs.Check.{Refusal}
use Rattle.paper.specs.Store.{run}
use Rattle.paper.specs.Effect.{Plan, Planned}
use Rattle.paper.specs.Answer.{Outcome, Ran, refused_by, done, cut, ran, NamePlan, single, one_name, deleting, requested}
use Rattle.demands.proofs.Request.Several.{plan_of}
use Rattle.demands.proofs.Request.Ended.{ran-by, refuses, passes, cuts}
use Rattle.demands.proofs.Answered.Ways.{Came, lent, planned, deletes, came}

-- the stop number is not reached
abbrev pub Uncut : Outcome → Type 0
Uncut o = o.answer.number ≡ 22 → ⊥

module _ (after : ℕ → Ran → Outcome) (stops : (j : ℕ) (p : Plan) → (after j (cut p)).answer.number ≡ 22) where
  -- a plan at two stop numbers: refused or whole at both, or cut at one
  both : (k j : ℕ) (x : Planned) → ((f : Refusal) → after k (refused_by f) ≡ after j (refused_by f))
      → ((p : Plan) → Uncut (after k (done p)) → Uncut (after j (done p)) → after k (done p) ≡ after j (done p))
      → Uncut (after k (ran k x)) → Uncut (after j (ran j x)) → after k (ran k x) ≡ after j (ran j x)
  both k j x refusal whole =
      ran-by (λ y. Uncut (after k y) → Uncut (after j (ran j x)) → after k y ≡ after j (ran j x)) k x
      (λ f v _ _. refusal f ∙ rw (refuses j x f v))
      (λ p v _ a b. by_cases (dec_le (length p.stores) j)
      (λ (l : length p.stores ≤ j). let q = passes j x p v l in whole p a (rw q at b) ∙ rw q)
      (λ (l : ¬ (length p.stores ≤ j)). absurd (b (rw (cuts j x p v (omega arith)) (stops j p)))))
      (λ p _ _ a _. absurd (a (stops k p)))

single-same : (t reply : List ℕ) (k j : ℕ) (x : Planned) → Uncut (single t reply k (ran k x)) → Uncut (single t reply j (ran j x))
    → single t reply k (ran k x) ≡ single t reply j (ran j x)
single-same t reply k j x = both (single t reply) (λ _ _. refl) k j x (λ _. refl) (λ _ _ _. refl)

pub deleting-same : (one : NamePlan) (ws : List Word) (t : List ℕ) (u : ℕ) (reply : List ℕ) (k j n made : ℕ)
    → Uncut (deleting one t u reply k n made ws) → Uncut (deleting one t u reply j n made ws)
    → deleting one t u reply k n made ws ≡ deleting one t u reply j n made ws
unfolding deleting
deleting-same one [] t u reply k j n made = λ _ _. refl
deleting-same one (w ∷ ws) t u reply k j n made = go (λ t. deleting-same one ws t u reply)
  where
    more : List ℕ → ℕ → ℕ → ℕ → Outcome
    more t₁ k₁ n₁ made₁ = deleting one t₁ u reply k₁ n₁ made₁ ws

    go : ((t : List ℕ) (k j n made : ℕ) → Uncut (more t k n made) → Uncut (more t j n made) → more t k n made ≡ more t j n made)
        → Uncut (deleting one t u reply k n made (w ∷ ws)) → Uncut (deleting one t u reply j n made (w ∷ ws))
        → deleting one t u reply k n made (w ∷ ws) ≡ deleting one t u reply j n made (w ∷ ws)
    go r =
        both (λ i. one_name t reply i n made more) (λ _ _. refl) k j (one t u (n + 1) w) (λ _. refl)
        (λ p. r (run t p.stores) (k - length p.stores) (j - length p.stores) (n + 1) (made + length p.stores))

-- two outcomes of one request that are not 22 are one
pub stop-same : (t line text reply : List ℕ) (u k j : ℕ) → Uncut (requested boxed t line text reply u k) → Uncut (requested boxed t line text reply u j)
    → requested boxed t line text reply u k ≡ requested boxed t line text reply u j
stop-same t line text reply u k j a b = go (came t line text reply u)
  where
    go : Came t line text reply u → requested boxed t line text reply u k ≡ requested boxed t line text reply u j
    go (lent f h q) = q k ∙ sym (q j)
    go (planned r e d x h q) = q k ∙ single-same t reply k j x (rw (q k) at a) (rw (q j) at b) ∙ sym (q j)
    go (deletes s names e _ q) = q k ∙ deleting-same (plan_of s) names t u reply k j 0 0 (rw (q k) at a) (rw (q j) at b) ∙ sym (q j)
