-- A request with stop number 0 makes no store: one store that it needs is one too many. So it leaves the table as lent.
-- What is done without a store leaves it too; and what is done with the stop number 0 is done with every other.
use mathlib.Core.List.{List, [], ◌∷◌}
use mathlib.Core.Path.{◌≡◌, refl}
use Prim.Native.Nat.{ℕ, ◌+◌, ◌-◌, ◌≤◌}
use native.Mathlib.Omega.{arith}
use lib.ListN.{length}
use Rattle.paper.specs.Layout.{boxed}
use Rattle.paper.specs.Line.{Word}
use Rattle.paper.specs.Store.{Store, run}
use Rattle.paper.specs.Effect.{Planned}
use Rattle.paper.specs.Answer.{Outcome, NamePlan, ran, single, one_name, deleting, requested}
use Rattle.demands.proofs.Request.Several.{plan_of}
use Rattle.demands.proofs.Request.Ended.{ran-by}
use Rattle.demands.proofs.Answered.Ways.{Came, lent, planned, deletes, came}

run_none : (t : List ℕ) (ss : List Store) → length ss ≤ 0 → run t ss ≡ t
unfolding run
run_none t [] l = refl
run_none t (s ∷ ss) l = let z : ⊥ = omega arith in absurd z

still-single : (t reply : List ℕ) (x : Planned) → (single t reply 0 (ran 0 x)).table ≡ t
unfolding run
still-single t reply x =
    ran-by (λ y. (single t reply 0 y).table ≡ t) 0 x (λ f _. refl) (λ p _ l. run_none t p.stores l) (λ p _ _. refl)

still-deleting : (one : NamePlan) (ws : List Word) (t : List ℕ) (u : ℕ) (reply : List ℕ) (n made : ℕ) → (deleting one t u reply 0 n made ws).table ≡ t
unfolding deleting run
still-deleting one [] t u reply n made = refl
still-deleting one (w ∷ ws) t u reply n made = go (λ n₁ made₁. still-deleting one ws t u reply n₁ made₁)
  where
    more : List ℕ → ℕ → ℕ → ℕ → Outcome
    more t₁ k₁ n₁ made₁ = deleting one t₁ u reply k₁ n₁ made₁ ws

    done-by : (ss : List Store) → length ss ≤ 0 → ((n₁ made₁ : ℕ) → (more t 0 n₁ made₁).table ≡ t)
        → (more (run t ss) (0 - length ss) (n + 1) (made + length ss)).table ≡ t
    done-by [] l r = r (n + 1) (made + 0)
    done-by (s ∷ ss) l r = let z : ⊥ = omega arith in absurd z

    go : ((n₁ made₁ : ℕ) → (more t 0 n₁ made₁).table ≡ t) → (deleting one t u reply 0 n made (w ∷ ws)).table ≡ t
    go r =
        ran-by (λ y. (one_name t reply 0 n made more y).table ≡ t) 0 (one t u (n + 1) w)
        (λ f _. refl) (λ p _ l. done-by p.stores l r) (λ p _ _. refl)

-- a request with stop number 0 leaves the table as lent, whatever it is
pub still : (t line text reply : List ℕ) (u : ℕ) → (requested boxed t line text reply u 0).table ≡ t
still t line text reply u = go (came t line text reply u)
  where
    go : Came t line text reply u → (requested boxed t line text reply u 0).table ≡ t
    go (lent f h e) = rw (e 0)
    go (planned r q d p h e) = rw (e 0) (still-single t reply p)
    go (deletes s ws q _ e) = rw (e 0) (still-deleting (plan_of s) ws t u reply 0 0)
