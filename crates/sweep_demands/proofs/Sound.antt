-- A sweep leaves a sound table: what it leaves needs nothing that it cleared, and its counts are corrected. So does a mend after a sweep cut
-- anywhere: it ends with nothing to clear, and the text of each heading left is left.
use mathlib.Core.List.{List}
use Prim.Native.Nat.{ℕ}
use lib.ListN.{take}
use Rattle.paper.specs.Store.{run}
use Rattle.paper.specs.Mend.{cleared, mended}
use Rattle.paper.specs.Sweep.{live, sweep_stores, swept}
use Rattle.laws.proofs.Lists.{every_take}
use Rattle.laws.proofs.Lay.{Whole}
use Rattle.demands.proofs.Sound.Clauses.{Sound}
use Rattle.demands.proofs.Sound.Right.{Right}
use Rattle.demands.proofs.SoundKept.Counted.{recounts-right}
use Rattle.demands.proofs.Mending.Wipe.{mended-is}
use Rattle.demands.proofs.Mending.Part.{Kept, Less}
use Rattle.demands.proofs.Mending.Less.{less-trans, cleared-less}
use Rattle.demands.proofs.Mending.Settled.{settled}
use Rattle.demands.proofs.Mending.Debris.{sound-keeps}
use Rattle.sweep_demands.proofs.Live.{live-less}
use Rattle.sweep_demands.proofs.Still.{live-still}
use Rattle.sweep_demands.proofs.Again.{swept-is, sweep-tidies, made-less}
use Rattle.sweep_demands.proofs.Lesser.{TextsStay, lesser-sound}
use Rattle.sweep_demands.proofs.Texts.{cleared-texts, live-texts, cut-texts}

module _ (s : List ℕ) (r : Right s) where
  c : Sound s
  c = r.clauses

  w : Whole s
  w = c.whole

  k : Kept s
  k = sound-keeps s r

  pub swept-right : Right (swept s)
  swept-right = rw (swept-is s) (recounts-right (live s) (lesser-sound s (live s) c (live-less s w) (live-still s w k) (live-texts s w)))

  -- some of it cleared, the text of each heading left there, and mended
  pub mended-right : (x : List ℕ) → Less s x → TextsStay s x → Right (mended x)
  mended-right x d t =
      rw (mended-is x)
      (recounts-right (cleared x)
      (lesser-sound s (cleared x) c (less-trans s x (cleared x) d (cleared-less x)) (settled x) (cleared-texts s w k x d t)))

  -- cut after n stores
  pub cut_right : (n : ℕ) → Right (mended (run s (take n (sweep_stores s))))
  cut_right n =
      mended-right (run s (take n (sweep_stores s)))
      (made-less s w (take n (sweep_stores s)) (every_take _ n (sweep_stores s) (sweep-tidies s w))) (cut-texts s w n)
