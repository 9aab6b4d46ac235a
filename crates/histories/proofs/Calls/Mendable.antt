-- From a sound table every table of a history mends to a sound one: a request or sweep on such a table that is not sound changes nothing, on a
-- sound one it is demand 3, and what stands in its place for a sweep; and a mend cut anywhere has the end of the table that it began with.
use mathlib.Core.Bool.{true}
use mathlib.Core.List.{List, [], ◌∷◌}
use mathlib.Core.Path.{◌≡◌}
use Prim.Native.Nat.{ℕ}
use native.Mathlib.Omega.{arith}
use lib.ListN.{length}
use Rattle.paper.specs.Layout.{boxed}
use Rattle.paper.specs.Table.{sized}
use Rattle.paper.specs.Sound.{sound}
use Rattle.paper.specs.Mend.{mend_stores, mended}
use Rattle.paper.specs.Answer.{requested, mending}
use Rattle.paper.specs.Index.{true_index}
use Rattle.paper.specs.Sweep.{swept, sweeping}
use Rattle.laws.proofs.Lay.{Whole}
use Rattle.laws.proofs.Runs.{length_run}
use Rattle.demands.proofs.Sound.Right.{Right, sound-right}
use Rattle.demands.proofs.Request.Course.{Course, untried, tried, course}
use Rattle.demands.proofs.Mending.{mended_whole, mend-sound, mended-again}
use Rattle.demands.proofs.Mending.Debris.{mended-sound}
use Rattle.demands.proofs.PowerCut.{demand-three}
use Rattle.sweep_demands.proofs.Sound.{swept-right, cut_right}
use Rattle.sweep_demands.proofs.Calls.{SweepCame, unsized, unsound, untrue, done, cut_off, sweep-came}
use Rattle.histories.specs.History.{Call, asks, mends, sweeps, called, after}

abbrev pub Mendable : List ℕ → Type 0
Mendable t = Right (mended t)

pub mendable-whole : (t : List ℕ) → Mendable t → Whole t
mendable-whole t c = let w : length (mended t) ≡ length t = unfold mended in length_run t (mend_stores t) in rw w at c.clauses.whole

pub sound-mendable : (t : List ℕ) → Right t → Mendable t
sound-mendable t c = rw (mended-sound t c) c

-- a request is refused and changes nothing, or the table is sound
pub data Asked (t line text reply : List ℕ) (u k : ℕ) : Type 0 where
  refused : (requested boxed t line text reply u k).table ≡ t → Asked t line text reply u k
  entered : Right t → Asked t line text reply u k

pub how-asked : (t line text reply : List ℕ) (u k : ℕ) → Asked t line text reply u k
how-asked t line text reply u k = go (course t line text reply u)
  where
    go : Course t line text reply u → Asked t line text reply u k
    go (untried f h e) = refused (rw (e k))
    go (tried r h e) = entered (sound-right t h.sized h.sound)

pub called-mendable : (t : List ℕ) (c : Call) → Mendable t → Mendable (called t c).table
called-mendable t (mends k) m = rw (mended-again t k) m
called-mendable t (sweeps k) m = go (sweep-came t (true_index t) k)
  where
    go : SweepCame t (true_index t) k (sweeping t (true_index t) k) → Mendable (sweeping t (true_index t) k).outcome.table
    go (unsized a e) = rw e m
    go (unsound a b e) = rw e m
    go (untrue a b c e) = rw e m
    go (done f l e) = rw e (sound-mendable (swept t) (swept-right t (sound-right t f.sized f.sound)))
    go (cut_off f l e) = rw e (cut_right t (sound-right t f.sized f.sound) k)
called-mendable t (asks line text reply u k) m = go (course t line text reply u)
  where
    -- the end of a mend that is sound
    ends : (s : List ℕ) → mending boxed s (length (mend_stores s)) ≡ mended_whole s → Mendable s
    ends s a =
        let b = mend-sound s (length (mend_stores s)) (rw a) in
        let d : (sized (mended s) ≡ true) × (sound boxed (mended s) ≡ true) = rw a at b in
        sound-right (mended s) d.0 d.1

    go : Course t line text reply u → Mendable (requested boxed t line text reply u k).table
    go (untried f h e) = rw (e k) m
    go (tried r h e) =
        ends (requested boxed t line text reply u k).table ((demand-three t line text reply u k h.sized h.sound).answers _ (omega arith))

pub after-mendable : (t : List ℕ) (cs : List Call) → Mendable t → Mendable (after t cs)
unfolding after
after-mendable t [] m = m
after-mendable t (c ∷ cs) m = after-mendable (called t c).table cs (called-mendable t c m)
