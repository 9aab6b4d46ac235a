-- "On the debris of one request one round is enough": what a request leaves, cut anywhere, stands between its debris and the table that it mends
-- to; so its first round leaves that table but for counts, and nothing is left to clear.
use mathlib.Core.Bool.{true}
use mathlib.Core.List.{List, [], ◌∷◌}
use mathlib.Core.Path.{◌≡◌}
use Prim.Native.Nat.{ℕ, zero, suc, ◌+◌, ◌-◌, ◌≤◌, ◌<◌}
use native.Mathlib.Omega.{arith}
use lib.ListN.{length, take}
use Rattle.paper.specs.Layout.{boxed}
use Rattle.paper.specs.Table.{sized}
use Rattle.paper.specs.Line.{Word}
use Rattle.paper.specs.Sound.{sound}
use Rattle.paper.specs.Walk.{file}
use Rattle.paper.specs.Store.{run}
use Rattle.paper.specs.Effect.{Plan, Planned, rewrite_plan}
use Rattle.paper.specs.Answer.{Ran, ran, single, one_name, deleting, requested}
use Rattle.demands.proofs.Sound.Right.{Right, sound-right}
use Rattle.demands.proofs.Request.Several.{Several, plan_of}
use Rattle.demands.proofs.Request.Ended.{ran-by}
use Rattle.demands.proofs.SoundKept.Kept.{Keeps, passed-sound, named-keeps}
use Rattle.demands.proofs.SoundKept.Rewriting.{Granted, rewrite-granted, rewrite-keeps}
use Rattle.demands.proofs.Mending.Debris.{Once, kept-once, sound-keeps}
use Rattle.demands.proofs.Tried.{Tried, lent, by-plan, by_names, by-rewrite, ways}
use Rattle.demands.proofs.PowerCut.Remade.{half-round}
use Rattle.demands.proofs.PowerCut.Plans.{Safe}
use Rattle.demands.proofs.PowerCut.Landing.{passed-cut, named-cut}

right-once : (t : List ℕ) → Right t → Once t
right-once t c = kept-once t (sound-keeps t c)

-- one plan
single-once : (t reply : List ℕ) → Right t → (x : Planned) → Safe t x → Keeps t x → (k : ℕ) → Once (single t reply k (ran k x)).table
single-once t reply c x safe sure k =
    ran-by (λ y. Once (single t reply k y).table) k x (λ f _. right-once t c) (λ p v l. right-once (run t p.stores) (passed-sound t x p sure v))
    (λ p v l. (passed-cut t c x p safe sure v k).once)

-- `WRS*`
rewrite-once : (t reply : List ℕ) → Right t → (u : ℕ) (text : List ℕ) (name : Word) → length text ≤ 24000
    → (k : ℕ) → Once (single t reply k (ran k (rewrite_plan boxed t u text name))).table
rewrite-once t reply c u text name short k =
    ran-by (λ y. Once (single t reply k y).table) k x (λ f _. right-once t c)
    (λ p v l. right-once (run t p.stores) (passed-sound t x p (rewrite-keeps t c.clauses u text name short c.counts) v))
    (λ p v l. cut k p (rewrite-granted t c.clauses u text name short p v) l)
  where
    x : Planned
    x = rewrite_plan boxed t u text name

    cut : (k : ℕ) (p : Plan) → Granted t u text name p → k < length p.stores → Once (run t (take k p.stores))
    cut zero p g l = unfold run in right-once t c
    cut (suc k) p g l =
        rw g.stores
        (half-round t (file t g.end) text c.clauses g.fit c.counts (suc k) (omega arith) (rw g.stores at l))

-- DEL and DST, name by name
names-once : (s : Several) (u : ℕ) (reply : List ℕ) (ws : List Word) (t : List ℕ) → Right t → (k n made : ℕ)
    → Once (deleting (plan_of s) t u reply k n made ws).table
unfolding deleting
names-once s u reply [] t c k n made = right-once t c
names-once s u reply (w ∷ ws) t c k n made = go (λ p. names-once s u reply ws (run t p.stores))
  where
    x : Planned
    x = plan_of s t u (n + 1) w

    after : Ran → List ℕ
    after y = (one_name t reply k n made (λ t₁ k₁ n₁ made₁. deleting (plan_of s) t₁ u reply k₁ n₁ made₁ ws) y).table

    go : ((p : Plan) → Right (run t p.stores) → (k n made : ℕ) → Once (deleting (plan_of s) (run t p.stores) u reply k n made ws).table)
        → Once (after (ran k x))
    go rest =
        ran-by (λ y. Once (after y)) k x (λ f _. right-once t c)
        (λ p v l.
        rest p (passed-sound t x p (named-keeps s t u (n + 1) w c.clauses) v) (k - length p.stores) (n + 1) (made + length p.stores))
        (λ p v l. (named-cut s t c u (n + 1) w p v k).once)

-- every sound table, line, text, reply, user and stop number
pub one-round-enough : (t line text reply : List ℕ) (u k : ℕ) → sized t ≡ true → sound boxed t ≡ true → Once (requested boxed t line text reply u k).table
one-round-enough t line text reply u k s e = go (ways t line text reply u)
  where
    c : Right t
    c = sound-right t s e

    go : Tried t line text reply u → Once (requested boxed t line text reply u k).table
    go (lent f q) = rw (q k) (right-once t c)
    go (by-plan x safe keeps q) = rw (q k) (single-once t reply c x safe keeps k)
    go (by_names s names a q) = rw (q k) (names-once s u reply names t c k 0 0)
    go (by-rewrite name a b q) = rw (q k) (rewrite-once t reply c u text name b k)
