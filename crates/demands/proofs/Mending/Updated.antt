-- A table of document 01 is brought up to date by one mend: it has all the clauses but the counts, so there is nothing to clear, and the
-- counts corrected leave every record alike and make them true.
use mathlib.Core.Bool.{true}
use mathlib.Core.List.{List}
use mathlib.Core.Path.{◌≡◌}
use Prim.Native.Nat.{ℕ, ◌<◌}
use Rattle.paper.specs.Layout.{boxed}
use Rattle.paper.specs.Table.{sized, rooms, rec}
use Rattle.paper.specs.Sound.{shaped, sound}
use Rattle.paper.specs.Count.{recounts}
use Rattle.paper.specs.Mend.{mend_stores, mended}
use Rattle.demands.proofs.Sound.Clauses.{Sound, shaped-clauses}
use Rattle.demands.proofs.Sound.Right.{Right, right-sound}
use Rattle.demands.proofs.SoundKept.Counted.{recounts-right}
use Rattle.demands.proofs.Mending.Part.{Alike}
use Rattle.demands.proofs.Mending.Counts.{recounts-each}
use Rattle.demands.proofs.Mending.Debris.{mend-shaped, mended-shaped}

-- whatever bytes 12-13 of a heading are, and 14-15 of a directory
pub record Updated (t : List ℕ) : Type 0 where
  pub stores : mend_stores t ≡ recounts t
  pub each : (i : ℕ) → i < rooms t → Alike (rec t i) (rec (mended t) i)
  pub sized : sized (mended t) ≡ true
  pub sound : sound boxed (mended t) ≡ true

pub brought-up : (t : List ℕ) → sized t ≡ true → shaped boxed t ≡ true → Updated t
brought-up t s e =
    let r = right-sound (mended t) right in
    record { stores = mend-shaped t c; each = λ i l. rw (mended-shaped t c) (recounts-each t i l); sized = r.0; sound = r.1 }
  where
    c : Sound t
    c = shaped-clauses t s e

    right : Right (mended t)
    right = rw (mended-shaped t c) (recounts-right t c)
