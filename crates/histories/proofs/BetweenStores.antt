-- Between two stores: a call with stop number k leaves the table after the first k of one list of stores, so the tables between the
-- stores of a call are those after it is cut. What lays records comes first and what only takes away last; a rewrite clears text alone: no heading is
-- cleared and laid again.
use mathlib.Core.Bool.{Bool, true, false, cond, true≢false}
use mathlib.Core.List.{List, [], ◌∷◌, ◌++◌, append-nil}
use mathlib.Core.Logic.{◌⊎◌, inl, inr, by_cases}
use mathlib.Core.Path.{◌≡◌, refl, sym, ap, ◌∙◌}
use Prim.Native.Nat.{ℕ, ◌+◌, ◌-◌, ◌≤◌, ◌<◌}
use native.Mathlib.Omega.{arith}
use native.Mathlib.Decide.{dec_le}
use lib.Dec.{leb}
use lib.ListN.{length, take, drop, take-append-drop}
use lib.Seq.{take_all, take-nil, take-take, take-append-le}
use borrow.Author.Tests.{eqb-true, eq-eqb, leb-true, leb-false}
use Rattle.paper.specs.Record.{byte}
use Rattle.paper.specs.Layout.{boxed}
use Rattle.paper.specs.Table.{rooms, rec}
use Rattle.paper.specs.Line.{Word}
use Rattle.paper.specs.Check.{Verdict, passed, refused, verdict}
use Rattle.paper.specs.Store.{Store, run}
use Rattle.paper.specs.Effect.{Plan, Planned, plan, halted, freed}
use Rattle.paper.specs.Mend.{mend_stores}
use Rattle.paper.specs.Answer.{Outcome, done, cut, ran, single, one_name, deleting, requested, mendable, mend_run, mending}
use Rattle.paper.specs.Index.{true_index}
use Rattle.paper.specs.Sweep.{sweep_stores, sweepable}
use Rattle.laws.proofs.Lists.{Every, every_take, take_past}
use Rattle.laws.proofs.Lay.{within, kind-blank}
use Rattle.laws.proofs.Runs.{run-each, run-append, rooms-run}
use Rattle.demands.proofs.Sound.Clauses.{Sound}
use Rattle.demands.proofs.Request.Several.{Several, plan_of}
use Rattle.demands.proofs.SoundKept.Kept.{Keeps, named-keeps}
use Rattle.demands.proofs.Mending.Part.{Below, free, stays}
use Rattle.demands.proofs.Mending.Counts.{alike-kind}
use Rattle.histories.specs.History.{Call, asks, mends, sweeps, called, cut_at, heads}
use Rattle.histories.proofs.Calls.Stores.{Puts, Put, Shaped, plain, freeing, razing}
use Rattle.histories.proofs.Calls.Shapes.{Shape}
use Rattle.histories.proofs.Calls.Ways.{Way, lent, by-plan, by_names, ways}
use Rattle.histories.proofs.Calls.Moved.{put-over}
use Rattle.histories.proofs.Calls.Falls.{Falls, falls-none, falls-less, falls-append, falls-take, falls-drop, clears-fall, mend-falls, sweep-falls}
use Rattle.histories.proofs.Calls.Requests.{Falling, named-falls, freed-clears}
use Rattle.histories.proofs.Calls.Sweeps.{sweep-run}
use Rattle.histories.proofs.Calls.Mendable.{Mendable, mendable-whole}

-- tables by stop number: those of one list of stores, of which the last only take away
pub record Stored (t : List ℕ) (o : ℕ → List ℕ) : Type 0 where
  pub first : List Store
  pub last : List Store
  pub tables : (k : ℕ) → o k ≡ run t (take k (first ++ last))
  pub puts : Every (Puts t) first
  pub falls : Falls (run t first) last

no_store : (t : List ℕ) (o : ℕ → List ℕ) → ((k : ℕ) → o k ≡ t) → Stored t o
unfolding run
no_store t o h = record { first = []; last = []; tables = λ k. h k ∙ rw (take-nil {A = Store} k); puts = tt; falls = falls-none _ }

-- ---- one plan

module _ (t reply : List ℕ) (c : Sound t) where
  shaped-stored : (ss : List Store) → Shaped false t ss → (o : ℕ → List ℕ) → ((k : ℕ) → o k ≡ run t (take k ss)) → Stored t o
  shaped-stored ss (plain h) o q = record { first = ss; last = []; tables = λ k. q k ∙ rw append-nil; puts = h; falls = falls-none _ }
  shaped-stored ss (razing z r) o q = absurd (true≢false (sym z))
  shaped-stored ss (freeing main g h k n e) o q =
      record {
        first = main;
        last = freed t g;
        tables = λ k. q k ∙ rw e;
        puts = h;
        falls = clears-fall (freed t g) (run t main) (rw (rooms-run t main) (freed-clears t c g k));
      }

  plan-stored : (x : Planned) → Shape false t x → Stored t (λ k. (single t reply k (ran k x)).table)
  plan-stored (halted f) h = no_store t _ (λ k. refl)
  plan-stored (plan p) h = go (verdict p.checks) refl
    where
      one : (k : ℕ) (b : Bool) → leb (length p.stores) k ≡ b → (single t reply k (cond b (done p) (cut p))).table ≡ run t (take k p.stores)
      one k true q = rw (take_all k p.stores (leb-true _ _ q))
      one k false q = refl

      go : (v : Verdict) → verdict p.checks ≡ v → Stored t (λ k. (single t reply k (ran k (plan p))).table)
      go (refused f) e = no_store t _ (λ k. rw e)
      go passed e = shaped-stored p.stores (h e) _ (λ k. rw e (one k _ refl))

-- ---- what only takes away

pub record Wiped (t : List ℕ) (o : ℕ → List ℕ) : Type 0 where
  pub stores : List Store
  pub tables : (k : ℕ) → o k ≡ run t (take k stores)
  pub falls : Falls t stores

no-wipe : (t : List ℕ) (o : ℕ → List ℕ) → ((k : ℕ) → o k ≡ t) → Wiped t o
unfolding run
no-wipe t o h = record { stores = []; tables = λ k. h k ∙ rw (take-nil {A = Store} k); falls = falls-none t }

wiped-stored : (t : List ℕ) (o : ℕ → List ℕ) → Wiped t o → Stored t o
unfolding run
wiped-stored t o w = record { first = []; last = w.stores; tables = w.tables; puts = tt; falls = w.falls }

-- DEL and DST: the stores of one name, and of the names after it
module _ (t reply : List ℕ) (n made : ℕ) (more : List ℕ → ℕ → ℕ → ℕ → Outcome) (p : Plan) (d : Falls t p.stores)
    (r : Wiped (run t p.stores) (λ k. (more (run t p.stores) k (n + 1) (made + length p.stores)).table)) where
  all : List Store
  all = p.stores ++ r.stores

  name-made : (k : ℕ) (b : Bool) → leb (length p.stores) k ≡ b → (one_name t reply k n made more (cond b (done p) (cut p))).table ≡ run t (take k all)
  unfolding all
  name-made k true q =
      rw (take_past k p.stores r.stores (leb-true _ _ q), run-append) (r.tables (k - length p.stores))
  name-made k false q = let l : k < length p.stores = leb-false _ _ q in rw (take-append-le k p.stores r.stores (omega arith))

  name-falls : Falls t all
  unfolding all
  name-falls = falls-append p.stores r.stores t d r.falls

name-wiped : (t reply : List ℕ) (n made : ℕ) (more : List ℕ → ℕ → ℕ → ℕ → Outcome) (x : Planned) → Keeps t x → Falling t x
    → ((t₁ : List ℕ) (n₁ made₁ : ℕ) → Sound t₁ → Wiped t₁ (λ k. (more t₁ k n₁ made₁).table)) → Wiped t (λ k. (one_name t reply k n made more (ran k x)).table)
name-wiped t reply n made more (halted f) h d r = no-wipe t _ (λ _. refl)
name-wiped t reply n made more (plan p) h d r = go (verdict p.checks) refl
  where
    go : (v : Verdict) → verdict p.checks ≡ v → Wiped t (λ k. (one_name t reply k n made more (ran k (plan p))).table)
    go (refused f) e = no-wipe t _ (λ _. rw e)
    go passed e =
        let z = r (run t p.stores) (n + 1) (made + length p.stores) (h e).clauses in
        record {
          stores = all t reply n made more p d z;
          tables = λ k. rw e (name-made t reply n made more p d z k _ refl);
          falls = name-falls t reply n made more p d z;
        }

del-wiped : (v : Several) (ws : List Word) (t : List ℕ) (u : ℕ) (reply : List ℕ) (n made : ℕ) → Sound t
    → Wiped t (λ k. (deleting (plan_of v) t u reply k n made ws).table)
unfolding deleting
del-wiped v [] t u reply n made c = no-wipe t _ (λ _. refl)
del-wiped v (w ∷ ws) t u reply n made c =
    name-wiped t reply n made (λ t₁ k₁ n₁ made₁. deleting (plan_of v) t₁ u reply k₁ n₁ made₁ ws) (plan_of v t u (n + 1) w) (named-keeps v t u (n + 1) w c) (named-falls v t c u (n + 1) w) (λ t₁. del-wiped v ws t₁ u reply)

-- ---- every call

-- a mend or a sweep, by its stores and its checks
run-wiped : (t : List ℕ) (ss : List Store) (v : Verdict) → Falls t ss → Wiped t (λ k. (mend_run t k ss v).table)
run-wiped t ss (refused f) d = no-wipe t _ (λ _. refl)
run-wiped t ss passed d = record { stores = ss; tables = λ k. one k _ refl; falls = d }
  where
    one : (k : ℕ) (b : Bool) → leb (length ss) k ≡ b → (mend_run t k ss passed).table ≡ run t (take k ss)
    one k true q = rw (q, take_all k ss (leb-true _ _ q))
    one k false q = rw q

-- outcomes by stop number that are the same
by : (t : List ℕ) (o p : ℕ → Outcome) → ((k : ℕ) → p k ≡ o k) → Stored t (λ k. (o k).table) → Stored t (λ k. (p k).table)
by t o p e z =
    record { first = z.first; last = z.last; tables = λ k. ap (λ (x : Outcome). x.table) (e k) ∙ z.tables k; puts = z.puts; falls = z.falls }

-- the tables of a call, by its stop number
pub between-stores : (t : List ℕ) (c : Call) → Stored t (λ k. (called t (cut_at k c)).table)
unfolding mending
between-stores t (mends stop) = wiped-stored t _ (run-wiped t (mend_stores t) (mendable boxed t) (mend-falls t))
between-stores t (sweeps stop) =
    by t _ _ (sweep-run t (true_index t)) (wiped-stored t _ (run-wiped t (sweep_stores t) (sweepable t (true_index t)) (sweep-falls t)))
between-stores t (asks line text reply u stop) = go (ways t line text reply u)
  where
    go : Way t line text reply u → Stored t (λ k. (requested boxed t line text reply u k).table)
    go (lent e) = no_store t _ e
    go (by-plan c x h e) = by t _ _ e (plan-stored t reply c x h)
    go (by_names c v names q e) = by t _ _ e (wiped-stored t _ (del-wiped v names t u reply 0 0 c))

-- ---- no heading is cleared and laid again

module _ (t : List ℕ) (o : ℕ → List ℕ) (d : Stored t o) (h : ℕ) (l : h < rooms t) (k : byte (rec t h) 0 ≡ 1) where
  -- while records are laid, it is one
  laying : (j : ℕ) → byte (rec (run t (take j d.first)) h) 0 ≡ 1
  laying j = go (run-each (Put t) t (take j d.first) (every_take _ j d.first d.puts) h l)
    where
      go : (rec (run t (take j d.first)) h ≡ rec t h) ⊎ Put t h (rec (run t (take j d.first)) h) → byte (rec (run t (take j d.first)) h) 0 ≡ 1
      go (inl e) = rw e k
      go (inr p) = put-over t h (rec (run t (take j d.first)) h) k p

  m : List ℕ
  m = run t d.first

  -- once they are taken away, it was one before if it is one after
  clearing : (a b : ℕ) → a ≤ b → byte (rec (run m (take b d.last)) h) 0 ≡ 1 → byte (rec (run m (take a d.last)) h) 0 ≡ 1
  unfolding m
  clearing a b q z = go ((falls-less rest s (rw same (falls-drop a (take b d.last) u (falls-take b d.last u d.falls)))).each h (rw same-rooms l))
    where
      u : List ℕ
      u = run t d.first

      s : List ℕ
      s = run u (take a d.last)

      rest : List Store
      rest = drop a (take b d.last)

      same : take a d.last ≡ take a (take b d.last)
      same = sym (take-take a b d.last q)

      same-rooms : rooms s ≡ rooms t
      same-rooms = rooms-run u (take a d.last) ∙ rooms-run t d.first

      end : run s rest ≡ run u (take b d.last)
      end = sym (run-append u (take a d.last) rest) ∙ rw (same, take-append-drop a (take b d.last))

      go : Below (rec s h) (rec (run s rest) h) → byte (rec s h) 0 ≡ 1
      go (stays e) = let y : byte (rec (run s rest) h) 0 ≡ 1 = rw end z in sym (alike-kind (rec s h) (rec (run s rest) h) e) ∙ y
      go (free e) =
          let y : byte (rec (run s rest) h) 0 ≡ 1 = rw end z in
          let v = kind-blank (rec (run s rest) h) e in
          let x : ⊥ = omega arith in absurd x

  one-before : (j b : ℕ) → j ≤ b → byte (rec (o b) h) 0 ≡ 1 → byte (rec (o j) h) 0 ≡ 1
  unfolding m
  one-before j b q z =
      rw (d.tables j)
      (by_cases (dec_le j (length d.first))
      (λ (x : j ≤ length d.first). rw (take-append-le j d.first d.last x) (laying j))
      (λ (x : ¬ (j ≤ length d.first)).
      rw (take_past j d.first d.last (omega arith), run-append)
      (clearing (j - length d.first) (b - length d.first) (omega arith)
      (rw (d.tables b, take_past b d.first d.last (omega arith), run-append) at z))))

-- a heading before a call and after it is one between all its stores: "has not been cleared" is "is a heading after every call"
pub heads-between : (t : List ℕ) (h : ℕ) (c : Call) (j k : ℕ) → Mendable t → heads h t ≡ true → j ≤ k
    → heads h (called t (cut_at k c)).table ≡ true → heads h (called t (cut_at j c)).table ≡ true
heads-between t h c j k m a q z =
    let i : byte (rec t h) 0 ≡ 1 = eqb-true _ _ a in
    eq-eqb _ _ (one-before t (λ k. (called t (cut_at k c)).table) (between-stores t c) h (within t h (mendable-whole t m) (omega arith)) i
    j k q (eqb-true _ _ z))
