-- A DEL or a DST name by name, by induction on the names: the plan of the first one is refused, whole or cut.
-- Whole, its stores are made and the rest goes on with those left; else the names before it stand done by themselves.
use mathlib.Core.List.{List, [], ◌∷◌}
use mathlib.Core.Logic.{◌≢◌}
use mathlib.Core.Path.{◌≡◌, refl, ◌∙◌}
use Prim.Native.Nat.{ℕ, suc, ◌+◌, ◌-◌, ◌≤◌, ◌<◌}
use native.Mathlib.Omega.{arith}
use native.Mathlib.Nat.{add-zero, zero-add}
use lib.ListN.{length, take, drop}
use Rattle.paper.specs.Line.{Word}
use Rattle.paper.specs.Check as paper
use Rattle.paper.specs.Check.{Refusal}
use Rattle.paper.specs.Store.{run}
use Rattle.paper.specs.Effect.{Plan, Planned}
use Rattle.paper.specs.Answer.{Outcome, plain, ran, one_name, deleting}
use Rattle.laws.proofs.Runs.{length_run}
use Rattle.demands.proofs.Request.Fair.{fair-uncut}
use Rattle.demands.proofs.Request.Several.{Several, plan_of}
use Rattle.demands.proofs.Request.Ended.{Refused, Passed, ran-by, passes}
use Rattle.demands.proofs.Answered.Numbered.{named-refused}

-- names done, with so many stores
abbrev pub finished : ℕ → ℕ → List ℕ → List ℕ → Outcome
finished n made t reply = record { answer = plain 0 (paper.whole 0) n made; table = t; reply = reply }

-- the first m names, by themselves, are done: they leave the table t₁ after made₁ stores in all
pub record Front (s : Several) (t : List ℕ) (u : ℕ) (reply : List ℕ) (k n made : ℕ) (ws : List Word) (m : ℕ) (t₁ : List ℕ) (made₁ : ℕ) : Type 0 where
  pub alone : deleting (plan_of s) t u reply k n made (take m ws) ≡ finished (n + m) made₁ t₁ reply
  pub room : made₁ ≤ made + k
  pub size : length t₁ ≡ length t

-- how it ends, with k stores left after n names and so many stores made: all names done, the next one refused, or the next one cut
pub data Deleted (s : Several) (t : List ℕ) (u : ℕ) (reply : List ℕ) (k n made : ℕ) (ws : List Word) (o : Outcome) : Type 0 where
  whole : (t₁ : List ℕ) (made₁ : ℕ) → Front s t u reply k n made ws (length ws) t₁ made₁ → o ≡ finished (n + length ws) made₁ t₁ reply
      → Deleted s t u reply k n made ws o
  halts : (m : ℕ) (t₁ : List ℕ) (made₁ : ℕ) (w : Word) (rest : List Word) (f : Refusal) → Front s t u reply k n made ws m t₁ made₁
      → drop m ws ≡ w ∷ rest → Refused (plan_of s t₁ u (n + m + 1) w) f
      → o ≡ record { answer = plain f.number f.place (n + m) made₁; table = t₁; reply = reply } → Deleted s t u reply k n made ws o
  stops : (m : ℕ) (t₁ : List ℕ) (made₁ : ℕ) (w : Word) (rest : List Word) (p : Plan) → Front s t u reply k n made ws m t₁ made₁
      → drop m ws ≡ w ∷ rest → Passed (plan_of s t₁ u (n + m + 1) w) p → made + k - made₁ < length p.stores
      → o ≡ record { answer = plain 22 (paper.whole 0) (n + m) (made + k); table = run t₁ (take (made + k - made₁) p.stores); reply = reply }
      → Deleted s t u reply k n made ws o

-- before the first name nothing is done
pub front-none : (s : Several) (t : List ℕ) (u : ℕ) (reply : List ℕ) (k n made : ℕ) (ws : List Word) → Front s t u reply k n made ws 0 t made
unfolding deleting
front-none s t u reply k n made ws = record { alone = rw add-zero; room = omega arith; size = refl }

-- one name more in front
front-more : (s : Several) (t : List ℕ) (u : ℕ) (reply : List ℕ) (k n made : ℕ) (w : Word) (ws : List Word) (p : Plan) (m : ℕ) (t₁ : List ℕ) (made₁ : ℕ)
    → Passed (plan_of s t u (n + 1) w) p → length p.stores ≤ k
    → Front s (run t p.stores) u reply (k - length p.stores) (n + 1) (made + length p.stores) ws m t₁ made₁
    → Front s t u reply k n made (w ∷ ws) (suc m) t₁ made₁
unfolding deleting
front-more s t u reply k n made w ws p m t₁ made₁ e l h =
    let c : n + 1 + m ≡ n + suc m = omega arith in
    record {
      alone = rw (passes k (plan_of s t u (n + 1) w) p e l) (rw c at h.alone);
      room = omega (arith, h.room);
      size = h.size ∙ length_run t p.stores;
    }

deleted-more : (s : Several) (t : List ℕ) (u : ℕ) (reply : List ℕ) (k n made : ℕ) (w : Word) (ws : List Word) (p : Plan) (o : Outcome)
    → Passed (plan_of s t u (n + 1) w) p → length p.stores ≤ k
    → Deleted s (run t p.stores) u reply (k - length p.stores) (n + 1) (made + length p.stores) ws o → Deleted s t u reply k n made (w ∷ ws) o
deleted-more s t u reply k n made w ws p o e l (whole t₁ made₁ h q) =
    let c : n + 1 + length ws ≡ n + suc (length ws) = omega arith in
    whole t₁ made₁ (front-more s t u reply k n made w ws p (length ws) t₁ made₁ e l h) (rw c at q)
deleted-more s t u reply k n made w ws p o e l (halts m t₁ made₁ v rest f h d r q) =
    let c : n + 1 + m ≡ n + suc m = omega arith in
    halts (suc m) t₁ made₁ v rest f (front-more s t u reply k n made w ws p m t₁ made₁ e l h) d (rw c at r) (rw c at q)
deleted-more s t u reply k n made w ws p o e l (stops m t₁ made₁ v rest x h d r y q) =
    let c : n + 1 + m ≡ n + suc m = omega arith in
    let b : made + length p.stores + (k - length p.stores) ≡ made + k = omega arith in
    stops (suc m) t₁ made₁ v rest x (front-more s t u reply k n made w ws p m t₁ made₁ e l h) d (rw c at r) (rw b at y) (rw (b, c) at q)

pub deleted : (s : Several) (t : List ℕ) (u : ℕ) (reply : List ℕ) (k n made : ℕ) (ws : List Word)
    → Deleted s t u reply k n made ws (deleting (plan_of s) t u reply k n made ws)
unfolding deleting
deleted s t u reply k n made [] = whole t made (front-none s t u reply k n made []) (rw add-zero)
deleted s t u reply k n made (w ∷ ws) = one (λ t₁ k₁ n₁ made₁. deleted s t₁ u reply k₁ n₁ made₁ ws)
  where
    more : List ℕ → ℕ → ℕ → ℕ → Outcome
    more t₁ k₁ n₁ made₁ = deleting (plan_of s) t₁ u reply k₁ n₁ made₁ ws

    x : Planned
    x = plan_of s t u (n + 1) w

    front : Front s t u reply k n made (w ∷ ws) 0 t made
    front = front-none s t u reply k n made (w ∷ ws)

    left : made + k - made ≡ k
    left = omega arith

    one : ((t₁ : List ℕ) (k₁ n₁ made₁ : ℕ) → Deleted s t₁ u reply k₁ n₁ made₁ ws (deleting (plan_of s) t₁ u reply k₁ n₁ made₁ ws))
        → Deleted s t u reply k n made (w ∷ ws) (one_name t reply k n made more (ran k x))
    one again =
        ran-by (λ y. Deleted s t u reply k n made (w ∷ ws) (one_name t reply k n made more y)) k x
        (λ f e. halts 0 t made w ws f front refl (rw add-zero e) (rw add-zero))
        (λ p e l. deleted-more s t u reply k n made w ws p _ e l (again (run t p.stores) (k - length p.stores) (n + 1) (made + length p.stores)))
        (λ p e l. stops 0 t made w ws p front refl (rw add-zero e) (rw left l) (rw (left, add-zero)))

-- one that came to its end or was refused on the way: the names done, by themselves, leave its table after its stores
abbrev pub Leaves : Several → List ℕ → ℕ → List ℕ → ℕ → List Word → Outcome → Type 0
Leaves s t u reply k ws o =
    deleting (plan_of s) t u reply k 0 0 (take o.answer.names ws) ≡ finished o.answer.names o.answer.stores o.table reply

-- one that was cut: the names done, by themselves, leave the table t₁ after so many stores, and of the next one's the first are made
pub record DelStopped (s : Several) (t : List ℕ) (u : ℕ) (reply : List ℕ) (k : ℕ) (ws : List Word) (o : Outcome) : Type 0 where
  pub before : List ℕ
  pub done : ℕ
  pub next : Word
  pub others : List Word
  pub plan : Plan
  pub front : deleting (plan_of s) t u reply k 0 0 (take o.answer.names ws) ≡ finished o.answer.names done before reply
  pub name : drop o.answer.names ws ≡ next ∷ others
  pub passed : Passed (plan_of s before u (o.answer.names + 1) next) plan
  pub room : done ≤ k
  pub more : k - done < length plan.stores
  pub table : o.table ≡ run before (take (k - done) plan.stores)
  pub made : o.answer.stores ≡ k

module _ (s : Several) (t : List ℕ) (u : ℕ) (reply : List ℕ) (k : ℕ) (ws : List Word) (o : Outcome) where
  pub deleted-leaves : o.answer.number ≢ 22 → Deleted s t u reply k 0 0 ws o → Leaves s t u reply k ws o
  deleted-leaves n (whole t₁ made₁ h e) = rw (e, zero-add) (rw zero-add at h.alone)
  deleted-leaves n (halts m t₁ made₁ w rest f h d r e) = rw (e, zero-add) (rw zero-add at h.alone)
  deleted-leaves n (stops m t₁ made₁ w rest p h d r l e) = absurd (n (rw e))

  pub deleted-stops : o.answer.number ≡ 22 → Deleted s t u reply k 0 0 ws o → DelStopped s t u reply k ws o
  deleted-stops n (whole t₁ made₁ h e) = let c : ◌≡◌ {A = ℕ} 0 22 = rw e at n in let z : ⊥ = omega arith in absurd z
  deleted-stops n (halts m t₁ made₁ w rest f h d r e) =
      let g = named-refused s t₁ u (0 + m) w f r in
      let c : f.number ≡ 22 = rw e at n in
      absurd (fair-uncut (λ _. w.names) f g c)
  deleted-stops n (stops m t₁ made₁ w rest p h d r l e) =
      let b = h.room in
      rw e (record {
        before = t₁;
        done = made₁;
        next = w;
        others = rest;
        plan = p;
        front = rw zero-add (rw zero-add at h.alone);
        name = rw zero-add d;
        passed = r;
        room = omega arith;
        more = rw zero-add at l;
        table = rw zero-add;
        made = zero-add k;
      })
