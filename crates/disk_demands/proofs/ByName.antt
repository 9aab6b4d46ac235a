-- A DEL or a DST of several names is one name after the other, each granted on the table that the one before left: also where a later name is
-- refused. So the phases are written name by name.
use mathlib.Core.List.{List, [], ◌∷◌}
use mathlib.Core.Logic.{◌≢◌}
use mathlib.Core.Path.{◌≡◌, refl, sym, ap, ◌∙◌}
use Prim.Native.Nat.{ℕ, ◌+◌}
use native.Mathlib.Omega.{arith}
use lib.ListN.{length}
use Rattle.paper.specs.Layout.{boxed}
use Rattle.paper.specs.Line.{Word}
use Rattle.paper.specs.Request.{request, asked}
use Rattle.paper.specs.Store.{run}
use Rattle.paper.specs.Effect.{Plan, Planned}
use Rattle.paper.specs.Answer.{Outcome, ran, one_name, deleting, granted, requested}
use Rattle.demands.proofs.Request.Several.{Several, deletion, destruction, asking, plan_of, grants-names}
use Rattle.demands.proofs.Request.Course.{Course, untried, tried, course, same-request}
use Rattle.demands.proofs.Request.Ended.{Passed, ran-by, passes}
use Rattle.disk.specs.Disk.{Granted, name, Razed, razed, Steps, ending}

-- the step of one name
abbrev pub StepOf : Several → List ℕ → List ℕ → Type 0
StepOf deletion = Granted
StepOf destruction = Razed

-- x is reached from t by such steps
pub record Reached (s : Several) (t x : List ℕ) : Type 0 where
  pub tables : List (List ℕ)
  pub steps : Steps (StepOf s) t tables
  pub end : x ≡ ending t tables

stays : (s : Several) (t x : List ℕ) → x ≡ t → Reached s t x
unfolding ending
stays s t x e = record { tables = []; steps = tt; end = e }

one_more : (s : Several) (t a x : List ℕ) → StepOf s t a → Reached s a x → Reached s t x
unfolding ending
one_more s t a x g r = record { tables = a ∷ r.tables; steps = (g, r.steps); end = r.end }

-- one name whose checks pass
name-granted : (s : Several) (t : List ℕ) (u n made : ℕ) (w : Word) (p : Plan) → Passed (plan_of s t u (n + 1) w) p → StepOf s t (run t p.stores)
unfolding deleting
name-granted deletion t u n made w p v =
    let q = passes (length p.stores) (plan_of deletion t u (n + 1) w) p v (omega arith) in
    name u (length p.stores) n made w (rw q) (rw q)
name-granted destruction t u n made w p v =
    let q = passes (length p.stores) (plan_of destruction t u (n + 1) w) p v (omega arith) in
    razed _ (record { user = u; stop = length p.stores; done = n; made = made; name = w; granted = rw q; cleared = refl; after = rw q })

deleting-steps : (s : Several) (ws : List Word) (t : List ℕ) (u : ℕ) (reply : List ℕ) (k n made : ℕ)
    → (deleting (plan_of s) t u reply k n made ws).answer.number ≢ 22 → Reached s t (deleting (plan_of s) t u reply k n made ws).table
unfolding deleting
deleting-steps s [] t u reply k n made = λ _. stays s t t refl
deleting-steps s (w ∷ ws) t u reply k n made = one (λ t₁. deleting-steps s ws t₁ u reply)
  where
    x : Planned
    x = plan_of s t u (n + 1) w

    more : List ℕ → ℕ → ℕ → ℕ → Outcome
    more t₁ k₁ n₁ made₁ = deleting (plan_of s) t₁ u reply k₁ n₁ made₁ ws

    one : ((t₁ : List ℕ) (k₁ n₁ made₁ : ℕ) → (more t₁ k₁ n₁ made₁).answer.number ≢ 22 → Reached s t₁ (more t₁ k₁ n₁ made₁).table)
        → (one_name t reply k n made more (ran k x)).answer.number ≢ 22 → Reached s t (one_name t reply k n made more (ran k x)).table
    one rest =
        ran-by (λ y. (one_name t reply k n made more y).answer.number ≢ 22 → Reached s t (one_name t reply k n made more y).table) k x
        (λ _ _ _. stays s t t refl)
        (λ p v _ d. one_more s t (run t p.stores) _ (name-granted s t u n made w p v) (rest (run t p.stores) _ _ _ d))
        (λ _ _ _ d. absurd (d refl))

-- every DEL and every DST whose stop number is not reached
pub del-steps : (s : Several) (t line text reply : List ℕ) (u k : ℕ) (names : List Word) → asked line text ≡ request (asking s names)
    → (requested boxed t line text reply u k).answer.number ≢ 22 → Reached s t (requested boxed t line text reply u k).table
del-steps s t line text reply u k names a d = go (course t line text reply u)
  where
    go : Course t line text reply u → Reached s t (requested boxed t line text reply u k).table
    go (untried f h e) = stays s t _ (rw (e k))
    go (tried r h e) =
        let q : r ≡ asking s names = same-request (sym h.asked ∙ a) in
        let z : requested boxed t line text reply u k ≡ deleting (plan_of s) t u reply k 0 0 names =
        e k ∙ ap (granted boxed t text reply u k) q ∙ grants-names s t text reply u k names in
        rw z (deleting-steps s names t u reply k 0 0 (rw z at d))
