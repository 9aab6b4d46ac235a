-- "Soundness says that both are true": a call on a sound table that is not cut leaves a sound one, and so does every mend that is not cut, since
-- every table of a history mends to a sound one. So the counts are true from a mend on until a call is cut.
use mathlib.Core.Bool.{true, not}
use mathlib.Core.List.{List, [], ◌∷◌}
use mathlib.Core.Path.{◌≡◌}
use Prim.Native.Nat.{ℕ}
use lib.Dec.{eqb}
use borrow.Author.Tests.{not-true, eqb-false}
use Rattle.paper.specs.Layout.{boxed}
use Rattle.paper.specs.Table.{sized}
use Rattle.paper.specs.Sound.{counts_true, sound}
use Rattle.paper.specs.Mend.{mend_stores, mended}
use Rattle.paper.specs.Answer.{mending}
use Rattle.paper.specs.Index.{true_index}
use Rattle.paper.specs.Sweep.{sweeping}
use Rattle.laws.proofs.Tests.{not-both, and_left, and_right}
use Rattle.laws.proofs.Runs.{length_run}
use Rattle.demands.proofs.Sound.Right.{Right, sound-right, right-sound}
use Rattle.demands.proofs.Stops.{Uncut}
use Rattle.demands.proofs.SoundKept.{sound-kept}
use Rattle.demands.proofs.MendAnswered.{MendCame, unsized, unsound, whole, cut_off, mend-came}
use Rattle.sweep_demands.proofs.Sound.{swept-right}
use Rattle.sweep_demands.proofs.Calls.{SweepCame, unsized, unsound, untrue, done, cut_off, sweep-came}
use Rattle.histories.specs.History.{Call, asks, mends, sweeps, called, after, uncut}
use Rattle.histories.proofs.Calls.Mendable.{Mendable, sound-mendable, after-mendable}

-- a table that a request takes, and what it says of its entries
pub record Settled (s : List ℕ) : Type 0 where
  pub sized : sized s ≡ true
  pub sound : sound boxed s ≡ true
  pub counts : counts_true s ≡ true

settled : (s : List ℕ) → Right s → Settled s
settled s r = let z = right-sound s r in record { sized = z.0; sound = z.1; counts = r.counts }

-- a mend that is not cut, on any table of a history
whole-mend : (t : List ℕ) (k : ℕ) → Mendable t → Uncut (mending boxed t k) → Right (mending boxed t k).table
unfolding mended
whole-mend t k m n = go (mend-came t k)
  where
    size : sized t ≡ true
    size = rw (length_run t (mend_stores t)) at (right-sound (mended t) m).0

    go : MendCame t k (mending boxed t k) → Right (mending boxed t k).table
    go (unsized a e) = absurd (not-both size a)
    go (unsound a b e) = absurd (not-both (right-sound (mended t) m).1 b)
    go (whole a b l e) = rw e m
    go (cut_off a b l e) = absurd (n (rw e))

-- a sweep that is not cut, on a sound table
whole-sweep : (t x : List ℕ) (k : ℕ) → Right t → Uncut (sweeping t x k).outcome → Right (sweeping t x k).outcome.table
whole-sweep t x k r n = go (sweep-came t x k)
  where
    go : SweepCame t x k (sweeping t x k) → Right (sweeping t x k).outcome.table
    go (unsized a e) = rw e r
    go (unsound a b e) = rw e r
    go (untrue a b c e) = rw e r
    go (done f l e) = rw e (swept-right t r)
    go (cut_off f l e) = absurd (n (rw e))

-- a call that is not cut, on a sound table
called-right : (t : List ℕ) (c : Call) → Right t → Uncut (called t c) → Right (called t c).table
called-right t (mends k) r n = whole-mend t k (sound-mendable t r) n
called-right t (sweeps k) r n = whole-sweep t (true_index t) k r n
called-right t (asks line text reply u k) r n =
    let z = right-sound t r in
    let s = sound-kept t line text reply u k z.0 z.1 n in
    sound-right _ s.0 s.1

after-right : (t : List ℕ) (cs : List Call) → Right t → uncut t cs ≡ true → Right (after t cs)
unfolding after uncut
after-right t [] r h = r
after-right t (c ∷ cs) r h =
    let n : Uncut (called t c) = eqb-false _ _ (not-true _ (and_left (not (eqb (called t c).answer.number 22)) _ h)) in
    after-right (called t c).table cs (called-right t c r n) (and_right (not (eqb (called t c).answer.number 22)) _ h)

-- from a sound table, calls of which none is cut
pub counts-after : (t : List ℕ) (cs : List Call) → sized t ≡ true → sound boxed t ≡ true → uncut t cs ≡ true → Settled (after t cs)
counts-after t cs a b h = settled (after t cs) (after-right t cs (sound-right t a b) h)

-- from a sound table, any calls, cut or whole, a mend that is not cut, and then calls of which none is cut
pub counts-mended : (t : List ℕ) (cs : List Call) (k : ℕ) (ds : List Call) → sized t ≡ true → sound boxed t ≡ true → Uncut (mending boxed (after t cs) k)
    → uncut (mending boxed (after t cs) k).table ds ≡ true → Settled (after (mending boxed (after t cs) k).table ds)
counts-mended t cs k ds a b n h =
    let m = after-mendable t cs (sound-mendable t (sound-right t a b)) in
    settled _ (after-right (mending boxed (after t cs) k).table ds (whole-mend (after t cs) k m n) h)
