-- A new file's heading and text, before its entry stands, are debris: they lie in free records, and the text's heading is a free record
-- of the table before.
use mathlib.Core.List.{List}
use mathlib.Core.Logic.{inl, inr}
use mathlib.Core.Path.{◌≡◌}
use Prim.Native.Nat.{ℕ, ◌+◌, ◌≤◌, ◌<◌}
use native.Mathlib.Omega.{arith}
use lib.ListN.{length}
use Rattle.paper.specs.Record.{blank}
use Rattle.paper.specs.Table.{rooms, rec, frees, room}
use Rattle.paper.specs.Block.{blocks, block}
use Rattle.paper.specs.Store.{Store}
use Rattle.paper.specs.Effect.{new_file}
use Rattle.laws.proofs.Lists.{Every, every-imp}
use Rattle.laws.proofs.Fields.{text-heading}
use Rattle.laws.proofs.Lay.{length-rec}
use Rattle.laws.proofs.Runs.{Lays}
use Rattle.laws.proofs.Rooms.{room-below, room-kind, free-blank}
use Rattle.demands.proofs.Sound.Clauses.{Sound}
use Rattle.demands.proofs.SoundKept.Filed.{Roomy, Laid, each_laid, text-kind, small}
use Rattle.demands.proofs.Mending.Debris.{keeps-none, Loose, head, body}
use Rattle.demands.proofs.PowerCut.Cut.{Litters}

module _ (t : List ℕ) (c : Sound t) where
  free : (m : ℕ) → m < length (frees t) → rec t (room t m) ≡ blank
  free m l = let b = room-below t m l in free-blank (rec t (room t m)) (length-rec t (room t m) b) ((c.own (room t m) b).free (room-kind t m l))

  pub littering : (heading text : List ℕ) → Roomy t heading text → Every (Litters t) (new_file t heading text)
  unfolding blank
  littering heading text n = every-imp (Lays (Laid t heading text n) (rooms t)) (Litters t) (new_file t heading text) one (each_laid t heading text n)
    where
      at_room : (m : ℕ) → m ≤ blocks (length text) → rec t (room t m) ≡ blank
      at_room m l = free m (omega (arith, n.room))

      debris : (i : ℕ) (r : List ℕ) → Laid t heading text n i r → (rec t i ≡ blank) × Loose t r
      debris i r (inl (e, q)) = (rw e (at_room 0 (omega arith)), head (rw q n.kind))
      debris i r (inr (p, l, e, q)) = (
        rw e (at_room (p + 1) (omega arith)),
        body (rw q (text-kind t heading text n p))
            (rw (q, text-heading (room t 0) p (block text p) (small t heading text n c.few), at_room 0 (omega arith)) keeps-none),
      )

      one : (s : Store) → Lays (Laid t heading text n) (rooms t) s → Litters t s
      one s l = record { within = l.within; size = l.size; holds = debris s.at s.bytes l.holds }
