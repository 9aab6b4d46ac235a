-- Mending's last step changes counts alone, so its shape is that of the cleared table,
-- and its counts are true.
use mathlib.Core.Bool.{Bool, true, false, ◌&&◌}
use mathlib.Core.List.{List}
use mathlib.Core.Path.{◌≡◌, refl, sym, ◌∙◌}
use Prim.Native.Nat.{ℕ}
use lib.ListN.{length}
use Rattle.paper.specs.Layout.{boxed}
use Rattle.paper.specs.Count.{recounts}
use Rattle.paper.specs.Mend.{cleared, mended}
use Rattle.paper.specs.Sound.{shaped, sound}
use Rattle.paper.specs.Store.{run}
use Rattle.paper.specs.Table.{sized, rec}
use Rattle.laws.proofs.Runs.{length_run, rooms-run}
use Rattle.laws.proofs.Tests.{same_truth}
use Rattle.demands.proofs.Mending.{mended-true}
use Rattle.demands.proofs.Mending.Counts.{alike-sym, recounts-each}
use Rattle.demands.proofs.Mending.Wipe.{mended-is}
use Rattle.demands.proofs.Sound.Clauses.{shaped-clauses, clauses-shaped}
use Rattle.demands.proofs.SoundKept.Counted.{alike-clauses}

module _ (t : List ℕ) (s : sized t ≡ true) where
  after : List ℕ
  after = run (cleared t) (recounts (cleared t))

  length-after : length after ≡ length (cleared t)
  unfolding after
  length-after = length_run (cleared t) _

  sized-cleared : sized (cleared t) ≡ true
  sized-cleared = unfold cleared in rw length_run s

  shaped-after : shaped boxed after ≡ shaped boxed (cleared t)
  unfolding after
  shaped-after =
      same_truth (shaped boxed after) (shaped boxed (cleared t))
      (λ e. (clauses-shaped (cleared t)
      (alike-clauses 65535 after (cleared t) (shaped-clauses after (rw length-after sized-cleared) e) (sym length-after)
      (λ i l. alike-sym (rec (cleared t) i) (rec after i) (recounts-each (cleared t) i (rw (rooms-run (cleared t) (recounts (cleared t))) at l))))).1)
      (λ e. (clauses-shaped after
      (alike-clauses 65535 (cleared t) after (shaped-clauses (cleared t) sized-cleared e) length-after (recounts-each (cleared t)))).1)

  pub sound-mended : sound boxed (mended t) ≡ shaped boxed (cleared t)
  unfolding sound after
  sound-mended = rw (mended-true t, mended-is t) (go (shaped boxed after) ∙ shaped-after)
    where
      go : (b : Bool) → (b && true) ≡ b
      go true = refl
      go false = refl
