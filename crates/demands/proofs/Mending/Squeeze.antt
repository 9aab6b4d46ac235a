-- A table between s and what the rounds leave of s mends to what s mends to: its rounds end between those of s and those of what they leave,
-- where there is nothing to clear, and counts corrected do the rest.
use mathlib.Core.Bool.{false}
use mathlib.Core.List.{List, []}
use mathlib.Core.Path.{◌≡◌, sym, ◌∙◌}
use Prim.Native.Nat.{ℕ, ◌<◌}
use Rattle.paper.specs.Table.{rooms}
use Rattle.paper.specs.Store.{run}
use Rattle.paper.specs.Mend.{adrift, orphan, stray, after₁, after₂, round_stores, round, cleared, mended}
use Rattle.laws.proofs.Lay.{Whole}
use Rattle.demands.proofs.Mending.Wipe.{clears-none, mended-is}
use Rattle.demands.proofs.Mending.Part.{Less}
use Rattle.demands.proofs.Mending.Counts.{recounts-alike}
use Rattle.demands.proofs.Mending.Less.{less_both, round_mono, cleared-less, cleared-mono}
use Rattle.demands.proofs.Mending.Settled.{still-round, still, settled}

-- where no test passes a round takes no store
module _ (t : List ℕ) (d : (i : ℕ) → i < rooms t → adrift t i ≡ false) (o : (i : ℕ) → i < rooms t → orphan t i ≡ false)
    (s : (i : ℕ) → i < rooms t → stray t i ≡ false) where
  same₁ : after₁ t ≡ t
  unfolding after₁ run
  same₁ = rw (clears-none (adrift t) (rooms t) d)

  same₂ : after₂ t ≡ t
  unfolding after₂ run
  same₂ = rw (same₁, clears-none (orphan t) (rooms t) o)

  pub quiet : round_stores t ≡ []
  unfolding round_stores
  quiet = rw (same₁, same₂, clears-none (adrift t) (rooms t) d, clears-none (orphan t) (rooms t) o) (clears-none (stray t) (rooms t) s)

-- the rounds leave no more than the first
pub round-cleared : (s : List ℕ) → Whole s → Less (round s) (cleared s)
round-cleared s w = rw (still-round (cleared s) (settled s)) at (round_mono s (cleared s) w (cleared-less s))

module _ (s x : List ℕ) (w : Whole s) (d : Less s x) (u : Less x (cleared s)) where
  -- x is left below what is left of s, and above it
  under : Less (cleared s) (cleared x)
  under = cleared-mono s x w d

  over : Less (cleared x) (cleared s)
  over = rw (still (cleared s) (settled s)) at (cleared-mono x (cleared s) (rw d.long w) u)

  pub squeeze : mended x ≡ mended s
  squeeze =
      mended-is x
      ∙ recounts-alike (cleared s) (cleared x) under.long (less_both (cleared s) (cleared x) under over) (rw (cleared-less s).long w)
      ∙ sym (mended-is s)
