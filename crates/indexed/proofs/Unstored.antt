-- A request that made no store leaves the table as lent: of one plan no store was made only where it has none or the stop number is 0, and of
-- several names no store was made only where none of any name was, since what is made only grows.
use mathlib.Core.List.{List, [], ◌∷◌}
use mathlib.Core.Path.{◌≡◌, refl, ◌∙◌}
use Prim.Native.Nat.{ℕ, zero, suc, ◌+◌, ◌-◌, ◌≤◌}
use native.Mathlib.Omega.{arith}
use lib.ListN.{length, take}
use Rattle.paper.specs.Layout.{boxed}
use Rattle.paper.specs.Line.{Word}
use Rattle.paper.specs.Store.{Store, run}
use Rattle.paper.specs.Effect.{Planned}
use Rattle.paper.specs.Answer.{Outcome, NamePlan, ran, single, one_name, deleting, requested}
use Rattle.demands.proofs.Request.Several.{plan_of}
use Rattle.demands.proofs.Request.Ended.{ran-by}
use Rattle.demands.proofs.Answered.Ways.{Came, lent, planned, deletes, came}

pub run_none : (t : List ℕ) (ss : List Store) → length ss ≡ 0 → run t ss ≡ t
unfolding run
run_none t [] e = refl
run_none t (s ∷ ss) e = let z : ⊥ = omega arith in absurd z

pub take_none : (t : List ℕ) (k : ℕ) (ss : List Store) → k ≡ 0 → run t (take k ss) ≡ t
unfolding run
take_none t zero ss e = refl
take_none t (suc k) ss e = let z : ⊥ = omega arith in absurd z

single-none : (t reply : List ℕ) (k : ℕ) (x : Planned) → (single t reply k (ran k x)).answer.stores ≡ 0 → (single t reply k (ran k x)).table ≡ t
single-none t reply k x =
    ran-by (λ y. (single t reply k y).answer.stores ≡ 0 → (single t reply k y).table ≡ t) k x
    (λ f _ _. refl) (λ p _ _ e. run_none t p.stores e) (λ p _ _ e. take_none t k p.stores e)

-- what is made only grows, and where it has not grown the table is as it was
record Grows (t : List ℕ) (made : ℕ) (o : Outcome) : Type 0 where
  pub least : made ≤ o.answer.stores
  pub none : o.answer.stores ≡ made → o.table ≡ t

deleting-none : (one : NamePlan) (ws : List Word) (t : List ℕ) (u : ℕ) (reply : List ℕ) (k n made : ℕ) → Grows t made (deleting one t u reply k n made ws)
unfolding deleting
deleting-none one [] t u reply k n made = record { least = omega arith; none = λ _. refl }
deleting-none one (w ∷ ws) t u reply k n made = go (λ t. deleting-none one ws t u reply)
  where
    more : List ℕ → ℕ → ℕ → ℕ → Outcome
    more t₁ k₁ n₁ made₁ = deleting one t₁ u reply k₁ n₁ made₁ ws

    done-by : (ss : List Store) (o : Outcome) → Grows (run t ss) (made + length ss) o → Grows t made o
    done-by ss o g =
        record {
          least = omega (arith, g.least);
          none = λ e. g.none (omega (arith, e, g.least)) ∙ run_none t ss (omega (arith, e, g.least));
        }

    go : ((t : List ℕ) (k n made : ℕ) → Grows t made (more t k n made)) → Grows t made (deleting one t u reply k n made (w ∷ ws))
    go r =
        ran-by (λ y. Grows t made (one_name t reply k n made more y)) k (one t u (n + 1) w)
        (λ f _. record { least = omega arith; none = λ _. refl })
        (λ p _ _. done-by p.stores _ (r (run t p.stores) (k - length p.stores) (n + 1) (made + length p.stores)))
        (λ p _ _. record { least = omega arith; none = λ e. take_none t k p.stores (omega (arith, e)) })

pub unstored : (t line text reply : List ℕ) (u k : ℕ) → (requested boxed t line text reply u k).answer.stores ≡ 0
    → (requested boxed t line text reply u k).table ≡ t
unstored t line text reply u k z = go (came t line text reply u)
  where
    go : Came t line text reply u → (requested boxed t line text reply u k).table ≡ t
    go (lent f h e) = rw (e k)
    go (planned r q d p h e) = rw (e k) (single-none t reply k p (rw (e k) at z))
    go (deletes s ws q _ e) = rw (e k) ((deleting-none (plan_of s) ws t u reply k 0 0).none (rw (e k) at z))
