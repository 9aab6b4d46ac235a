-- Demand 3: a request cut after any number of stores and then mended is the table before or the table after, for DEL and
-- DST after some first part of the names, for `WRS*` after with that one file marked and empty. What is refused changes nothing; what is granted is one plan
-- of the right shape, or DEL or DST, name by name, or a rewrite.
-- the shape that a list of stores must have, and its parts
pub mod Cut
pub mod Littering
pub mod Remade
pub mod Losing
-- each function has it, and so each cut lands
pub mod Plans
-- DST has a shape of its own
pub mod Razing
pub mod Landing
-- .. in one round
pub mod Once
use mathlib.Core.Bool.{true}
use mathlib.Core.List.{List}
use mathlib.Core.Logic.{◌⊎◌, inl, inr}
use mathlib.Core.Path.{◌≡◌, sym, ap, ◌∙◌}
use Prim.Native.Nat.{ℕ, ◌≤◌}
use native.Mathlib.Omega.{arith}
use lib.ListN.{length, take}
use Rattle.paper.specs.Layout.{boxed}
use Rattle.paper.specs.Table.{sized}
use Rattle.paper.specs.Line.{Word}
use Rattle.paper.specs.Request.{rewrite, request, asked}
use Rattle.paper.specs.Sound.{sound}
use Rattle.paper.specs.Walk.{State, start, file, reached, to_directory, to_last}
use Rattle.paper.specs.Store.{run}
use Rattle.paper.specs.Effect.{Planned, chain_of, emptied, rewrite_plan}
use Rattle.paper.specs.Mend.{mend_stores, mended}
use Rattle.paper.specs.Answer.{Outcome, ran, single, deleting, granted, requested, mending}
use Rattle.demands.proofs.Sound.Right.{Right, sound-right, right-sound}
use Rattle.demands.proofs.Request.Several.{Several, asking, plan_of, grants-names}
use Rattle.demands.proofs.Mending.Debris.{mended-sound}
use Rattle.demands.proofs.Mending.{mended_whole, mend-whole}
use Rattle.demands.proofs.Tried.{Tried, lent, by-plan, by_names, by-rewrite, ways}
use Rattle.demands.proofs.PowerCut.Landing.{Done, single-cut, Remakes, unmade, remade, half, rewrite-cut, del-cut}
use Rattle.demands.proofs.Stops.{Uncut, deleting-same, stop-same}

-- `WRS*`: x is the table "after with that one file marked and empty"; so it is from the table before
pub record Halved (t line text reply : List ℕ) (u : ℕ) (x : List ℕ) : Type 0 where
  pub name : Word
  pub asked : asked line text ≡ request (rewrite name)
  pub directory : State
  pub end : State
  pub walked : to_directory boxed t 1 (start u) (chain_of name) ≡ reached directory
  pub last : to_last boxed t directory (chain_of name) ≡ reached end
  pub after : List ℕ
  pub done : Done (requested boxed t line text reply u) after
  pub half : x ≡ emptied after (file t end)
  pub before : x ≡ emptied t (file t end)

-- where a cut request is once it is mended: the table before; the table after; for DEL and DST, the table after some first part of its
-- names;-- for `WRS*`, after with that one file marked and empty
pub data Lands (t line text reply : List ℕ) (u : ℕ) (x : List ℕ) : Type 0 where
  before : x ≡ t → Lands t line text reply u x
  after : Done (requested boxed t line text reply u) x → Lands t line text reply u x
  first : (s : Several) (names : List Word) (n : ℕ) → asked line text ≡ request (asking s names) → n ≤ length names
      → Done (λ k. granted boxed t text reply u k (asking s (take n names))) x → Lands t line text reply u x
  marked : Halved t line text reply u x → Lands t line text reply u x

-- a cut at k, mended, is sound and lands
record Landed (t line text reply : List ℕ) (u k : ℕ) : Type 0 where
  sound : Right (mended (requested boxed t line text reply u k).table)
  lands : Lands t line text reply u (mended (requested boxed t line text reply u k).table)

-- the stop number that cuts the request, and mending after it
pub record Harmless (t line text reply : List ℕ) (u k : ℕ) : Type 0 where
  pub lands : Lands t line text reply u (mended (requested boxed t line text reply u k).table)
  pub answers : (j : ℕ) → length (mend_stores (requested boxed t line text reply u k).table) ≤ j
      → mending boxed (requested boxed t line text reply u k).table j ≡ mended_whole (requested boxed t line text reply u k).table

landed : (t line text reply : List ℕ) (u k : ℕ) → Right t → Landed t line text reply u k
landed t line text reply u k c = go (ways t line text reply u)
  where
    alone : (x : Planned) {y : List ℕ} → ((k : ℕ) → requested boxed t line text reply u k ≡ single t reply k (ran k x))
        → (y ≡ t) ⊎ Done (λ k. single t reply k (ran k x)) y → Lands t line text reply u y
    alone x q (inl z) = before z
    alone x q (inr d) = after (record { stop = d.stop; number = rw (q d.stop) d.number; table = rw (q d.stop) d.table })

    rewrites : (name : Word) → asked line text ≡ request (rewrite name) → (b : length text ≤ 24000)
        → ((k : ℕ) → requested boxed t line text reply u k ≡ single t reply k (ran k (rewrite_plan boxed t u text name)))
        → {y : List ℕ} → Remakes t reply c u text name b y → Lands t line text reply u y
    rewrites name a b q (unmade z) = before z
    rewrites name a b q (remade d) = alone (rewrite_plan boxed t u text name) q (inr d)
    rewrites name a b q (half p g d z e) =
        marked (record {
          name = name;
          asked = a;
          directory = g.directory;
          end = g.end;
          walked = g.walked;
          last = g.last;
          after = run t p.stores;
          done = record { stop = d.stop; number = rw (q d.stop) d.number; table = rw (q d.stop) d.table };
          half = e;
          before = z;
        })

    parts : (s : Several) (names : List Word) (n : ℕ) {y : List ℕ} → Done (λ k. deleting (plan_of s) t u reply k 0 0 (take n names)) y
        → Done (λ k. granted boxed t text reply u k (asking s (take n names))) y
    parts s names n d =
        let q = grants-names s t text reply u d.stop (take n names) in
        record { stop = d.stop; number = rw q d.number; table = rw q d.table }

    go : Tried t line text reply u → Landed t line text reply u k
    go (lent f q) =
        let z : mended (requested boxed t line text reply u k).table ≡ t = rw (q k) (mended-sound t c) in
        record { sound = rw z c; lands = before z }
    go (by-plan x safe keeps q) =
        let s = single-cut t reply c x safe keeps k in
        record { sound = rw (q k) s.0; lands = rw (q k) (alone x q s.1) }
    go (by_names s names a q) =
        let d = del-cut s u reply names t c k 0 0 in
        record { sound = rw (q k) d.sound; lands = rw (q k) (first s names d.names a d.most (parts s names d.names d.done)) }
    go (by-rewrite name a b q) =
        let s = rewrite-cut t reply c u text name b k in
        record { sound = rw (q k) s.0; lands = rw (q k) (rewrites name a b q s.1) }

-- the demand: every sound table, line, text, reply, user and stop number
pub demand-three : (t line text reply : List ℕ) (u k : ℕ) → sized t ≡ true → sound boxed t ≡ true → Harmless t line text reply u k
demand-three t line text reply u k s e =
    let d = landed t line text reply u k (sound-right t s e) in
    let f = right-sound (mended (requested boxed t line text reply u k).table) d.sound in
    record { lands = d.lands; answers = λ j. mend-whole (requested boxed t line text reply u k).table j f.0 f.1 }

-- the table after is the table of every outcome that is not 22
pub only-after : (t line text reply : List ℕ) (u : ℕ) (x : List ℕ) → Done (requested boxed t line text reply u) x
    → (j : ℕ) → Uncut (requested boxed t line text reply u j) → x ≡ (requested boxed t line text reply u j).table
only-after t line text reply u x d j b =
    d.table ∙ ap (λ (o : Outcome). o.table) (stop-same t line text reply u d.stop j (λ z. omega (arith, z, d.number)) b)

pub only_part : (s : Several) (t text reply : List ℕ) (u : ℕ) (ws : List Word) (x : List ℕ) → Done (λ k. granted boxed t text reply u k (asking s ws)) x
    → (j : ℕ) → Uncut (granted boxed t text reply u j (asking s ws)) → x ≡ (granted boxed t text reply u j (asking s ws)).table
only_part s t text reply u ws x d j b =
    let e : Outcome = granted boxed t text reply u d.stop (asking s ws) in
    let q : e ≡ granted boxed t text reply u j (asking s ws) =
    at d.stop ∙ deleting-same (plan_of s) ws t u reply d.stop j 0 0 (rw (at d.stop) at uncut) (rw (at j) at b) ∙ sym (at j) in
    d.table ∙ ap (λ (o : Outcome). o.table) q
  where
    uncut : Uncut (granted boxed t text reply u d.stop (asking s ws))
    uncut z = omega (arith, z, d.number)

    at : (k : ℕ) → granted boxed t text reply u k (asking s ws) ≡ deleting (plan_of s) t u reply k 0 0 ws
    at k = grants-names s t text reply u k ws
