-- Stores that only take away: each clears its record, or lays the heading there with other counts. So after more of them a table is less,
-- and a heading after some of them was one before; the stores of a mend and of a sweep, and those of DEL and DST, are such.
use mathlib.Core.Bool.{Bool}
use mathlib.Core.List.{List, [], ◌∷◌, ◌++◌}
use mathlib.Core.Logic.{◌≢◌, by_cases}
use mathlib.Core.Path.{◌≡◌, refl, ◌∙◌}
use Prim.Native.Nat.{ℕ, zero, suc, ◌<◌}
use native.Mathlib.Decide.{ℕ_discrete}
use lib.ListN.{take, drop}
use Rattle.paper.specs.Record.{blank}
use Rattle.paper.specs.Table.{rooms, rec, lay}
use Rattle.paper.specs.Store.{Store, clears, run}
use Rattle.paper.specs.Count.{recounts}
use Rattle.paper.specs.Mend.{adrift, orphan, stray, mend_first, mend_second, mend_third, after₁, after₂, round_stores, round, rounds_stores, clear_stores, cleared, mend_stores}
use Rattle.paper.specs.Sweep.{lost_entry, lost_heading, lost_text, sweep_clears, live, sweep_stores}
use Rattle.laws.proofs.Lists.{Every, every_append, every-imp}
use Rattle.laws.proofs.Lay.{lay-same, lay-other, rooms-lay, length-lay, length-rec}
use Rattle.laws.proofs.Runs.{Lays}
use Rattle.laws.proofs.Recounts.{Recount, every-recounts}
use Rattle.demands.proofs.Mending.Wipe.{Blanks, every-clears}
use Rattle.demands.proofs.Mending.Part.{Alike, equal, counts, Below, free, stays, Less}
use Rattle.demands.proofs.Mending.Counts.{alike-sym, alike-trans, but-recount}
use Rattle.demands.proofs.Mending.Less.{less-refl, less-trans}

-- each store lays less than what is there by then
unfoldable pub Falls : List ℕ → List Store → Type 0
Falls u [] = Unit {0}
Falls u (x ∷ ss) = Lays (λ i r. Below (rec u i) r) (rooms u) x × Falls (lay u x.at x.bytes) ss

pub falls-none : (u : List ℕ) → Falls u []
unfolding Falls
falls-none u = tt

lay-less : (u : List ℕ) (x : Store) → Lays (λ i r. Below (rec u i) r) (rooms u) x → Less u (lay u x.at x.bytes)
lay-less u x h = record { long = length-lay u x.at x.bytes; each = at }
  where
    at : (i : ℕ) → i < rooms u → Below (rec u i) (rec (lay u x.at x.bytes) i)
    at i l =
        by_cases (ℕ_discrete i x.at) (λ (q : i ≡ x.at). rw (q, lay-same u x.at x.bytes h.size h.within) h.holds)
        (λ (q : i ≢ x.at). rw (lay-other u x.at x.bytes i h.size q l) (stays (equal refl)))

pub falls-less : (ss : List Store) (u : List ℕ) → Falls u ss → Less u (run u ss)
unfolding Falls run
falls-less [] u h = less-refl u
falls-less (x ∷ ss) u h = less-trans u (lay u x.at x.bytes) _ (lay-less u x h.0) (falls-less ss _ h.1)

pub falls-append : (a b : List Store) (u : List ℕ) → Falls u a → Falls (run u a) b → Falls u (a ++ b)
unfolding Falls run
falls-append [] b u h g = g
falls-append (x ∷ a) b u h g = (h.0, falls-append a b _ h.1 g)

pub falls-take : (k : ℕ) (ss : List Store) (u : List ℕ) → Falls u ss → Falls u (take k ss)
unfolding Falls
falls-take zero ss u h = tt
falls-take (suc k) [] u h = tt
falls-take (suc k) (x ∷ ss) u h = (h.0, falls-take k ss _ h.1)

pub falls-drop : (k : ℕ) (ss : List Store) (u : List ℕ) → Falls u ss → Falls (run u (take k ss)) (drop k ss)
unfolding Falls run
falls-drop zero ss u h = h
falls-drop (suc k) [] u h = tt
falls-drop (suc k) (x ∷ ss) u h = falls-drop k ss _ h.1

-- clearings
pub clears-fall : (ss : List Store) (u : List ℕ) → Every (Lays (λ _ r. r ≡ blank) (rooms u)) ss → Falls u ss
unfolding Falls
clears-fall [] u h = tt
clears-fall (x ∷ ss) u h = (
  record { within = h.0.within; size = h.0.size; holds = free h.0.holds },
  clears-fall ss _ (rw (rooms-lay u x.at x.bytes) h.1),
)

-- counts of m, over a table alike to it
counts-on : (ss : List Store) (m u : List ℕ) → rooms u ≡ rooms m → ((i : ℕ) → i < rooms m → Alike (rec m i) (rec u i))
    → Every (Lays (λ i r. Alike (rec m i) r) (rooms m)) ss → Falls u ss
unfolding Falls
counts-on [] m u e a h = tt
counts-on (x ∷ ss) m u e a h = (
  record {
    within = rw e h.0.within;
    size = h.0.size;
    holds =
        stays (alike-trans (rec u x.at) (rec m x.at) x.bytes (alike-sym (rec m x.at) (rec u x.at) (a x.at h.0.within)) h.0.holds);
  },
  counts-on ss m (lay u x.at x.bytes) (rooms-lay u x.at x.bytes ∙ e) at h.1,
)
  where
    at : (i : ℕ) → i < rooms m → Alike (rec m i) (rec (lay u x.at x.bytes) i)
    at i l =
        by_cases (ℕ_discrete i x.at)
        (λ (q : i ≡ x.at). rw (q, lay-same u x.at x.bytes h.0.size (rw e h.0.within)) h.0.holds)
        (λ (q : i ≢ x.at). rw (lay-other u x.at x.bytes i h.0.size q (rw e l)) (a i l))

-- each store of the counts lays the heading that is there with others
pub counts-alike : (m : List ℕ) → Every (Lays (λ i r. Alike (rec m i) r) (rooms m)) (recounts m)
counts-alike m = every-imp (Lays (Recount m) (rooms m)) (Lays (λ i r. Alike (rec m i) r) (rooms m)) (recounts m) one (every-recounts m)
  where
    one : (x : Store) → Lays (Recount m) (rooms m) x → Lays (λ i r. Alike (rec m i) r) (rooms m) x
    one x h =
        record {
          within = h.within;
          size = h.size;
          holds = rw h.holds.0 (counts (but-recount m x.at (rec m x.at) (length-rec m x.at h.within) h.holds.1.0));
        }

pub counts-fall : (m : List ℕ) → Falls m (recounts m)
counts-fall m = counts-on (recounts m) m m refl (λ i l. equal refl) (counts-alike m)

-- a mend's stores
blanks : (p : ℕ → Bool) (n : ℕ) → Every (Lays (λ _ r. r ≡ blank) n) (clears p n)
blanks p n =
    every-imp (Lays (Blanks p) n) (Lays (λ _ r. r ≡ blank) n) (clears p n)
    (λ s l. record { within = l.within; size = l.size; holds = l.holds.0 }) (every-clears p n)

wipe-falls : (u : List ℕ) (p : ℕ → Bool) → Falls u (clears p (rooms u))
wipe-falls u p = clears-fall (clears p (rooms u)) u (blanks p (rooms u))

round-falls : (t : List ℕ) → Falls t (round_stores t)
unfolding round_stores after₁ after₂
round-falls t =
    falls-append (mend_first t) (mend_second (after₁ t) ++ mend_third (after₂ t)) t (wipe-falls t (adrift t))
    (falls-append (mend_second (after₁ t)) (mend_third (after₂ t)) (after₁ t) (wipe-falls (after₁ t) (orphan (after₁ t)))
    (wipe-falls (after₂ t) (stray (after₂ t))))

rounds-fall : (n : ℕ) (t : List ℕ) → Falls t (rounds_stores n t)
unfolding rounds_stores round Falls
rounds-fall zero t = tt
rounds-fall (suc n) t = falls-append (round_stores t) (rounds_stores n (round t)) t (round-falls t) (rounds-fall n (round t))

pub mend-falls : (t : List ℕ) → Falls t (mend_stores t)
unfolding mend_stores clear_stores cleared
mend-falls t = falls-append (clear_stores t) (recounts (cleared t)) t (rounds-fall (rooms t) t) (counts-fall (cleared t))

-- a sweep's
pub sweep-falls : (t : List ℕ) → Falls t (sweep_stores t)
unfolding sweep_stores sweep_clears live
sweep-falls t =
    falls-append (sweep_clears t) (recounts (live t)) t
    (clears-fall (sweep_clears t) t
    (every_append _ (clears (lost_entry t) (rooms t)) (clears (lost_heading t) (rooms t) ++ clears (lost_text t) (rooms t)) (blanks (lost_entry t) (rooms t))
    (every_append _ (clears (lost_heading t) (rooms t)) (clears (lost_text t) (rooms t)) (blanks (lost_heading t) (rooms t)) (blanks (lost_text t) (rooms t)))))
    (counts-fall (live t))
