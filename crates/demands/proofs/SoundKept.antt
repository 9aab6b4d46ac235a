-- Sound tables stay sound: a request whose stop number is not reached leaves the table as lent, or after one plan that keeps soundness,
-- or after some names of a DEL, each of which keeps it.
-- a new file, then its entry
pub mod Built
pub mod Grown
pub mod Filed
pub mod FiledSound
pub mod Placed
pub mod Made
-- an entry displaced or cleared, then its file
pub mod Cleared
pub mod Freed
pub mod Settled
-- laid again: a heading with its new code, an entry with its new name
pub mod Alike
pub mod Recoded
pub mod Renamed
-- a file with another text
pub mod Retexted
pub mod Emptied
pub mod Refilled
-- the counts: alike but for them, true again, and kept
pub mod Counted
pub mod Recounted
pub mod Told
-- each function keeps it
pub mod Kept
pub mod Keeping
pub mod Rewriting
use mathlib.Core.Bool.{true}
use mathlib.Core.List.{List}
use mathlib.Core.Path.{◌≡◌}
use Prim.Native.Nat.{ℕ}
use Rattle.paper.specs.Layout.{boxed}
use Rattle.paper.specs.Table.{sized}
use Rattle.paper.specs.Sound.{sound}
use Rattle.paper.specs.Effect.{rewrite_plan}
use Rattle.paper.specs.Answer.{requested}
use Rattle.demands.proofs.Sound.Right.{Right, sound-right, right-sound}
use Rattle.demands.proofs.SoundKept.Kept.{single-sound, deleting-sound}
use Rattle.demands.proofs.SoundKept.Rewriting.{rewrite-keeps}
use Rattle.demands.proofs.Tried.{Tried, lent, by-plan, by_names, by-rewrite, ways}
use Rattle.demands.proofs.Stops.{Uncut}

pub sound-kept : (t line text reply : List ℕ) (u k : ℕ) → sized t ≡ true → sound boxed t ≡ true → Uncut (requested boxed t line text reply u k)
    → (sized (requested boxed t line text reply u k).table ≡ true) × (sound boxed (requested boxed t line text reply u k).table ≡ true)
sound-kept t line text reply u k s e a = right-sound (requested boxed t line text reply u k).table (go (ways t line text reply u))
  where
    c : Right t
    c = sound-right t s e

    go : Tried t line text reply u → Right (requested boxed t line text reply u k).table
    go (lent f q) = rw (q k) c
    go (by-plan x safe keeps q) = rw (q k) (single-sound t reply k c x keeps (rw (q k) at a))
    go (by_names s names d q) = rw (q k) (deleting-sound s names t u reply k 0 0 c (rw (q k) at a))
    go (by-rewrite name d b q) =
        rw (q k) (single-sound t reply k c (rewrite_plan boxed t u text name) (rewrite-keeps t c.clauses u text name b c.counts) (rw (q k) at a))
