-- Demand 1 over the definitions, for every input: a request is refused before it is tried, tried by one plan, or a DEL or a DST name by name.
-- Each way fixes the answer's numbers; what a refusal or a cut leaves of the table and the reply stands in the answer's definition.
pub mod Numbered
pub mod ByName
pub mod Ways
pub mod Links
use mathlib.Core.Bool.{true, cond, true≢false}
use mathlib.Core.List.{List}
use mathlib.Core.Logic.{◌≢◌}
use mathlib.Core.Path.{◌≡◌, refl, sym, ap, ◌∙◌, subst}
use Prim.Native.Nat.{ℕ, ◌+◌, ◌-◌, ◌≤◌, ◌<◌}
use native.Mathlib.Omega.{arith}
use native.Mathlib.Nat.{zero-add}
use lib.ListN.{length, take, drop, length-append, length-drop}
use lib.Seq.{drop-append_seam}
use lib.Dec.{eqb}
use borrow.Author.Tests.{ne_eqb}
use Rattle.paper.specs.Layout.{boxed}
use Rattle.paper.specs.Line.{Word}
use Rattle.paper.specs.Check as paper
use Rattle.paper.specs.Check.{Place, Refusal}
use Rattle.paper.specs.Request.{del, dst, request, asked}
use Rattle.paper.specs.Store.{Store, run}
use Rattle.paper.specs.Effect.{Plan, Planned}
use Rattle.paper.specs.Answer.{Outcome, plain, refusing, done, stores, ran, single, deleting, requested}
use Rattle.laws.proofs.Runs.{length_run}
use Rattle.demands.proofs.Request.Fair.{placeless, answers, Fair, Chained, fair-some, fair-uncut, fair-answers, verdict-idle}
use Rattle.demands.proofs.Request.Chains.{names_at}
use Rattle.demands.proofs.Request.Several.{Several, deletion, destruction, asking, plan_of}
use Rattle.demands.proofs.Request.Spoken.{Chains}
use Rattle.demands.proofs.Request.Ended.{Passed, ran-by, passes, cuts}
use Rattle.demands.proofs.Answered.Numbered.{FairPlan, FairPlanned, fair-named, fair-refused}
use Rattle.demands.proofs.Answered.Ways.{is_del, Came, lent, planned, deletes, came}
use Rattle.demands.proofs.Answered.Links.{Linked, linked-whole, linked-fair}
use Rattle.demands.proofs.Answered.ByName.{Deleted, whole, halts, stops, front-none, deleted, Leaves, DelStopped, deleted-leaves, deleted-stops}

-- what every outcome keeps: the table and the reply that were lent, and the answer's numbers
pub record Answered (t line reply : List ℕ) (k : ℕ) (o : Outcome) : Type 0 where
  pub number : answers o.answer.number ≡ true
  pub place : eqb o.answer.place.argument 0 ≡ placeless o.answer.number
  pub link : Linked line o.answer.number o.answer.place
  pub displaced : o.answer.number ≢ 0 → o.answer.displaced ≡ 0
  pub bytes : o.answer.number ≢ 0 → o.answer.bytes ≡ 0
  pub stores : o.answer.stores ≤ k
  pub lent : o.answer.number ≢ 0 → o.reply ≡ reply
  -- "The rest of the buffer is unchanged."
  pub rest : drop o.answer.bytes o.reply ≡ drop o.answer.bytes reply
  pub size : length o.reply ≡ length reply
  pub table : length o.table ≡ length t

module _ (t line reply : List ℕ) where
  answered-plain : (t₁ : List ℕ) (k number : ℕ) (place : Place) (names stores : ℕ) → answers number ≡ true → eqb place.argument 0 ≡ placeless number
      → Linked line number place → stores ≤ k → length t₁ ≡ length t
      → Answered t line reply k (record { answer = plain number place names stores; table = t₁; reply = reply })
  answered-plain t₁ k number place names stores l e i m f =
      record {
        number = l;
        place = e;
        link = i;
        displaced = λ _. refl;
        bytes = λ _. refl;
        stores = m;
        lent = λ _. refl;
        rest = refl;
        size = refl;
        table = f;
      }

  -- 0 and 22
  answered-whole : (t₁ : List ℕ) (k number names stores : ℕ) → answers number ≡ true → placeless number ≡ true → stores ≤ k → length t₁ ≡ length t
      → Answered t line reply k (record { answer = plain number (paper.whole 0) names stores; table = t₁; reply = reply })
  answered-whole t₁ k number names stores l e = answered-plain t₁ k number (paper.whole 0) names stores l (sym e) (linked-whole line number)

  -- a refusal, some names done
  answered-refused : (t₁ : List ℕ) (k names stores : ℕ) (f : Refusal) → Fair (names_at line) f → stores ≤ k → length t₁ ≡ length t
      → Answered t line reply k (record { answer = plain f.number f.place names stores; table = t₁; reply = reply })
  answered-refused t₁ k names stores f h =
      answered-plain t₁ k f.number f.place names stores (fair-answers (names_at line) f h) h.place (linked-fair line f h)

  -- every function but DEL and DST: a refusal is fair; what is done writes no more than fits; a cut is 22
  answered-single : (k : ℕ) (P : Planned) → FairPlanned (names_at line) reply P → Answered t line reply k (single t reply k (ran k P))
  answered-single k P h =
      ran-by (λ x. Answered t line reply k (single t reply k x)) k P
      (λ f e. answered-refused t k 0 0 f (fair-refused (names_at line) reply P f h e) (omega arith) refl)
      finishes
      (λ p _ _. answered-whole (run t (take k p.stores)) k 22 0 k refl refl (omega arith) (length_run t (take k p.stores)))
    where
      finishes : (p : Plan) → Passed P p → length p.stores ≤ k → Answered t line reply k (single t reply k (done p))
      finishes p v l =
          let g : FairPlan (names_at line) reply p = subst (FairPlanned (names_at line) reply) v.plan h in
          let fits = g.fits (verdict-idle p.checks v.checks) in
          record {
            number = refl;
            place = refl;
            link = linked-whole line 0;
            displaced = λ n. absurd (n refl);
            bytes = λ n. absurd (n refl);
            stores = l;
            lent = λ n. absurd (n refl);
            rest = drop-append_seam p.reply (drop (length p.reply) reply);
            size = simp (length-append, length-drop) (omega arith);
            table = length_run t p.stores;
          }

  -- a DEL or a DST: the next name after m is argument m + 1
  answered-deleted : (v : Several) (u k : ℕ) (ws : List Word) (o : Outcome) → Chains (names_at line) ws → Deleted v t u reply k 0 0 ws o
      → Answered t line reply (0 + k) o
  answered-deleted v u k ws o s (whole t₁ made₁ h q) = rw q (answered-whole t₁ (0 + k) 0 (0 + length ws) made₁ refl refl h.room h.size)
  answered-deleted v u k ws o s (halts m t₁ made₁ w rest f h d r q) =
      let c : Chained (names_at line) (0 + m + 1) w = rw zero-add (s m w rest d) in
      let g = fair-refused (names_at line) reply (plan_of v t₁ u (0 + m + 1) w) f (fair-named (names_at line) t₁ reply u v (0 + m + 1) w c) r in
      rw q (answered-refused t₁ (0 + k) (0 + m) made₁ f g h.room h.size)
  answered-deleted v u k ws o s (stops m t₁ made₁ w rest p h d r l q) =
      rw q (answered-whole _ (0 + k) 22 (0 + m) (0 + k) refl refl (omega arith) (length_run t₁ (take (0 + k - made₁) p.stores) ∙ h.size))

-- demand 1: for every table, line, text, reply buffer, user and stop number
pub answered : (t line text reply : List ℕ) (u k : ℕ) → Answered t line reply k (requested boxed t line text reply u k)
answered t line text reply u k = go (came t line text reply u)
  where
    go : Came t line text reply u → Answered t line reply k (requested boxed t line text reply u k)
    go (lent f h e) = rw (e k) (answered-refused t line reply t k 0 0 f h (omega arith) refl)
    go (planned r q d p h e) = rw (e k) (answered-single t line reply k p h)
    go (deletes v ws q s e) = rw (e k) (rw zero-add at (answered-deleted t line reply v u k ws _ s (deleted v t u reply k 0 0 ws)))

-- ---- what a refusal and a cut leave

-- the request is no DEL and no DST
abbrev pub NoDel : List ℕ → List ℕ → Type 0
NoDel line text = (v : Several) (ws : List Word) → asked line text ≡ request (asking v ws) → ⊥

-- the outcome, refused, left the table as lent and made no store
abbrev pub Lends : List ℕ → Outcome → Type 0
Lends t o = o.answer.number ≢ 0 → o.answer.number ≢ 22 → (o.table ≡ t) × (o.answer.stores ≡ 0)

-- "All but DEL and 22 leave the table as lent"; document 02: "whatever demand 1 .. [excepts] .. for a DEL of several names holds for DST too"
pub refusal-lends : (t line text reply : List ℕ) (u k : ℕ) → NoDel line text → Lends t (requested boxed t line text reply u k)
refusal-lends t line text reply u k d = go (came t line text reply u)
  where
    go : Came t line text reply u → Lends t (requested boxed t line text reply u k)
    go (lent f h e) = rw (e k) (λ _ _. (refl, refl))
    go (planned r q x P h e) =
        rw (e k)
        (ran-by (λ y. Lends t (single t reply k y)) k P (λ f _ _ _. (refl, refl)) (λ p _ _ n _. absurd (n refl)) (λ p _ _ _ n. absurd (n refl)))
    go (deletes v ws q s e) = absurd (d v ws q)

-- "Names done counts names all of whose stores were made (0 or 1 but for DEL ..)"
abbrev pub CountsOne : Outcome → Type 0
CountsOne o = o.answer.names ≡ cond (eqb o.answer.number 0) 1 0

counts-none : (names : ℕ → List (List ℕ)) (t reply : List ℕ) (f : Refusal) → Fair names f → CountsOne (refusing t reply f)
counts-none names t reply f h = rw (ne_eqb f.number 0 (λ (z : f.number ≡ 0). omega (arith, fair-some names f h)))

pub names-done : (t line text reply : List ℕ) (u k : ℕ) → NoDel line text → CountsOne (requested boxed t line text reply u k)
names-done t line text reply u k d = go (came t line text reply u)
  where
    go : Came t line text reply u → CountsOne (requested boxed t line text reply u k)
    go (lent f h e) = rw (e k) (counts-none (names_at line) t reply f h)
    go (planned r q x P h e) =
        rw (e k)
        (ran-by (λ y. CountsOne (single t reply k y)) k P
        (λ f c. counts-none (names_at line) t reply f (fair-refused (names_at line) reply P f h c)) (λ p _ _. refl) (λ p _ _. refl))
    go (deletes v ws q s e) = absurd (d v ws q)

-- 22, of a request that is neither: the first k of its stores are made, and these are the stores that it makes with no stop in the way
pub record Stopped (t line text reply : List ℕ) (u k : ℕ) : Type 0 where
  pub stores : List Store
  pub more : k < length stores
  pub table : (requested boxed t line text reply u k).table ≡ run t (take k stores)
  pub made : (requested boxed t line text reply u k).answer.stores ≡ k
  pub uncut : (j : ℕ) → length stores ≤ j
      → ((requested boxed t line text reply u j).answer.number ≡ 0) × ((requested boxed t line text reply u j).table ≡ run t stores)

pub stop-cuts : (t line text reply : List ℕ) (u k : ℕ) → NoDel line text → (requested boxed t line text reply u k).answer.number ≡ 22
    → Stopped t line text reply u k
stop-cuts t line text reply u k d n = go (came t line text reply u)
  where
    go : Came t line text reply u → Stopped t line text reply u k
    go (lent f h e) = let g : f.number ≡ 22 = rw (e k) at n in absurd (fair-uncut (names_at line) f h g)
    go (deletes v ws q s e) = absurd (d v ws q)
    go (planned r q x P h e) =
        ran-by (λ y. (single t reply k y).answer.number ≡ 22 → Stopped t line text reply u k) k P
        (λ f c m. absurd (fair-uncut (names_at line) f (fair-refused (names_at line) reply P f h c) m))
        (λ p _ _ m. let z : ⊥ = omega arith in absurd z)
        (λ p v l m. record {
          stores = p.stores;
          more = l;
          table = rw (e k, cuts k P p v l);
          made = rw (e k, cuts k P p v l);
          uncut = λ j b. (rw (e j, passes j P p v b), rw (e j, passes j P p v b));
        })
        (rw (e k) at n)

-- a request that is a DEL or a DST is refused before it is tried, or goes name by name
pub del-came : (X : Outcome → Type 0) (v : Several) (t line text reply : List ℕ) (u k : ℕ) (ws : List Word) → asked line text ≡ request (asking v ws)
    → ((f : Refusal) → Fair (names_at line) f → X (refusing t reply f)) → X (deleting (plan_of v) t u reply k 0 0 ws) → X (requested boxed t line text reply u k)
del-came X v t line text reply u k ws q a b = go v q b (came t line text reply u)
  where
    go : (v : Several) → asked line text ≡ request (asking v ws) → X (deleting (plan_of v) t u reply k 0 0 ws) → Came t line text reply u
        → X (requested boxed t line text reply u k)
    go v q b (lent f h e) = rw (e k) (a f h)
    go deletion q b (planned r p x P h e) = let c : r ≡ del ws = cc in absurd (true≢false (rw c at x))
    go destruction q b (planned r p x P h e) = let c : r ≡ dst ws = cc in absurd (true≢false (rw c at x))
    go deletion q b (deletes deletion vs p s e) = let c : ws ≡ vs = cc in rw (e k, ← c) b
    go destruction q b (deletes destruction vs p s e) = let c : ws ≡ vs = cc in rw (e k, ← c) b
    go deletion q b (deletes destruction vs p s e) = let c : del ws ≡ dst vs = cc in absurd (true≢false (ap is_del c))
    go destruction q b (deletes deletion vs p s e) = let c : del vs ≡ dst ws = cc in absurd (true≢false (ap is_del c))

-- a DEL or a DST leaves the table, and has made the stores, of the names that it did, but for 22; there it stopped in the next one
pub del-leaves : (v : Several) (t line text reply : List ℕ) (u k : ℕ) (ws : List Word) → asked line text ≡ request (asking v ws)
    → (requested boxed t line text reply u k).answer.number ≢ 22 → Leaves v t u reply k ws (requested boxed t line text reply u k)
del-leaves v t line text reply u k ws q =
    del-came (λ o. o.answer.number ≢ 22 → Leaves v t u reply k ws o) v t line text reply u k ws q
    (λ f h _. (front-none v t u reply k 0 0 ws).alone)
    (λ n. deleted-leaves v t u reply k ws _ n (deleted v t u reply k 0 0 ws))

pub del-stops : (v : Several) (t line text reply : List ℕ) (u k : ℕ) (ws : List Word) → asked line text ≡ request (asking v ws)
    → (requested boxed t line text reply u k).answer.number ≡ 22 → DelStopped v t u reply k ws (requested boxed t line text reply u k)
del-stops v t line text reply u k ws q =
    del-came (λ o. o.answer.number ≡ 22 → DelStopped v t u reply k ws o) v t line text reply u k ws q
    (λ f h n. absurd (fair-uncut (names_at line) f h n))
    (λ n. deleted-stops v t u reply k ws _ n (deleted v t u reply k 0 0 ws))
