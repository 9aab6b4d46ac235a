-- A table between s and what a sweep leaves of s is swept to what s is swept to: the same is left of it but for counts, and counts corrected do
-- the rest. A sweep cut anywhere stands there, and so does what a mend makes of it, since what is left of s has nothing to clear.
use mathlib.Core.Bool.{Bool, true, false}
use mathlib.Core.List.{List, ◌++◌}
use mathlib.Core.Path.{◌≡◌, refl, sym, ◌∙◌}
use Prim.Native.Nat.{ℕ}
use lib.ListN.{take}
use Rattle.paper.specs.Table.{rooms, rec}
use Rattle.paper.specs.Store.{Store, clears, run}
use Rattle.paper.specs.Count.{recounts}
use Rattle.paper.specs.Mend.{cleared, mended}
use Rattle.paper.specs.Sweep.{lost_entry, lost_heading, lost_text, sweep_clears, live, sweep_stores, swept}
use Rattle.laws.proofs.Tests.{not-both, or_left, or_right, false-by}
use Rattle.laws.proofs.Lists.{Every, every_append, every_take}
use Rattle.laws.proofs.Lay.{Whole}
use Rattle.laws.proofs.Runs.{run-append, length_run}
use Rattle.demands.proofs.Mending.Wipe.{mended-is}
use Rattle.demands.proofs.Mending.Part.{Alike, Kept, Less}
use Rattle.demands.proofs.Mending.Counts.{recounts-alike, alike-past}
use Rattle.demands.proofs.Mending.Less.{less-refl, less-trans, less_both, wiped-mono, cleared-mono, recounts-less, recounts-more, mended-less}
use Rattle.demands.proofs.Mending.Settled.{still}
use Rattle.demands.proofs.Mending.Again.{Tidies, tidied, tidy-less, tidy-over, step-tidies, count-tidies}
use Rattle.sweep_demands.proofs.Live.{lost, live-is, live-less, live-none, live-twice, lost-still, live-mono}
use Rattle.sweep_demands.proofs.Still.{live-still}

-- the table after a sweep
pub swept-is : (t : List ℕ) → swept t ≡ run (live t) (recounts (live t))
unfolding swept sweep_stores live
swept-is t = run-append t (sweep_clears t) (recounts (live t))

module _ (s x : List ℕ) (w : Whole s) (d : Less s x) (u : Less x (live s)) where
  -- what is left of x is below what is left of s, and above it
  under : Less (live s) (live x)
  under = live-mono s x w d

  over : Less (live x) (live s)
  over = rw (live-twice s w) at (live-mono x (live s) (rw d.long w) u)

  pub squeeze-live : swept x ≡ swept s
  squeeze-live =
      swept-is x ∙ recounts-alike (live s) (live x) under.long (less_both (live s) (live x) under over) (rw (live-less s w).long w)
      ∙ sym (swept-is s)

-- a swept table is swept to itself
pub swept-twice : (s : List ℕ) → Whole s → swept (swept s) ≡ swept s
swept-twice s w =
    squeeze-live s (swept s) w (rw (swept-is s) (less-trans s (live s) _ (live-less s w) (recounts-less (live s))))
    (rw (swept-is s) (recounts-more (live s)))

-- .. and has nothing lost
pub swept_none : (s : List ℕ) → Whole s → (i : ℕ) → lost (swept s) i ≡ false
swept_none s w i =
    false-by (lost (swept s) i) (λ e.
    not-both (lost-still (swept s) (live s) (rw (d.long, (live-less s w).long) w) u i (alike i) e) (live-none s w i))
  where
    d : Less (live s) (swept s)
    d = rw (swept-is s) (recounts-less (live s))

    u : Less (swept s) (live s)
    u = rw (swept-is s) (recounts-more (live s))

    alike : (i : ℕ) → Alike (rec (swept s) i) (rec (live s) i)
    alike = alike-past (swept s) (live s) (rw (d.long, (live-less s w).long) w) u.long (less_both (swept s) (live s) u d)

-- ---- the stores of a sweep

module _ (s : List ℕ) (w : Whole s) where
  -- each of its steps clears what is lost
  part : (p : ℕ → Bool) → ((i : ℕ) → p i ≡ true → lost s i ≡ true) → Every (Tidies (live s) s) (clears p (rooms s))
  part p h = step-tidies s s (live s) p refl (rw (live-is s w) (wiped-mono s s p (lost s) (less-refl s) (λ i x. h i)))

  pub sweep-tidies : Every (Tidies (live s) s) (sweep_stores s)
  unfolding sweep_stores sweep_clears
  sweep-tidies =
      every_append (Tidies (live s) s) (sweep_clears s) (recounts (live s))
      (every_append (Tidies (live s) s) (clears (lost_entry s) (rooms s)) (clears (lost_heading s) (rooms s) ++ clears (lost_text s) (rooms s))
      (part (lost_entry s) (λ i e. or_right (lost_text s i) _ (or_right (lost_heading s i) _ e)))
      (every_append (Tidies (live s) s) (clears (lost_heading s) (rooms s)) (clears (lost_text s) (rooms s))
      (part (lost_heading s) (λ i e. or_right (lost_text s i) _ (or_left (lost_heading s i) _ e)))
      (part (lost_text s) (λ i e. or_left (lost_text s i) _ e))))
      (count-tidies s (live s) (live-less s w))

  -- any of them made, in any order
  module _ (ss : List Store) (h : Every (Tidies (live s) s) ss) where
    pub made-less : Less s (run s ss)
    made-less = tidy-less (live s) s (run s ss) (live-less s w) (length_run s ss) (tidied (live s) s ss h)

    pub made-over : Less (run s ss) (live s)
    made-over = tidy-over (live s) s (run s ss) (live-less s w) (length_run s ss) (tidied (live s) s ss h)

-- ---- mended, and swept again

module _ (s x : List ℕ) (w : Whole s) (d : Less s x) (u : Less x (live s)) (k : Kept s) where
  mended-under : Less s (mended x)
  mended-under = less-trans s x (mended x) d (mended-less x)

  mended-over : Less (mended x) (live s)
  mended-over =
      rw (mended-is x)
      (less-trans _ (cleared x) (live s) (recounts-more (cleared x))
      (rw (still (live s) (live-still s w k)) at (cleared-mono x (live s) (rw d.long w) u)))

  pub cut-any : swept (mended x) ≡ swept s
  cut-any = squeeze-live s (mended x) w mended-under mended-over

-- cut after n stores
pub cut_again : (s : List ℕ) → Whole s → Kept s → (n : ℕ) → swept (mended (run s (take n (sweep_stores s)))) ≡ swept s
cut_again s w k n =
    let h : Every (Tidies (live s) s) (take n (sweep_stores s)) = every_take _ n (sweep_stores s) (sweep-tidies s w) in
    cut-any s (run s (take n (sweep_stores s))) w (made-less s w (take n (sweep_stores s)) h) (made-over s w (take n (sweep_stores s)) h) k
