-- A sound table has its clauses and its true counts: soundness is the two halves, so each is had from it and both give it.
-- So what is shown of a sound table is shown of a table that has both.
use mathlib.Core.Bool.{true}
use mathlib.Core.List.{List}
use mathlib.Core.Path.{◌≡◌}
use Prim.Native.Nat.{ℕ}
use Rattle.paper.specs.Layout.{boxed}
use Rattle.paper.specs.Table.{sized}
use Rattle.paper.specs.Sound.{counts_true, shaped, sound}
use Rattle.laws.proofs.Tests.{and_right, and_both}
use Rattle.demands.proofs.Sound.Clauses.{Sound, sound-clauses, clauses-shaped}

pub record Right (t : List ℕ) : Type 0 where
  pub clauses : Sound t
  pub counts : counts_true t ≡ true

pub sound-right : (t : List ℕ) → sized t ≡ true → sound boxed t ≡ true → Right t
unfolding sound
sound-right t s e = record { clauses = sound-clauses t s e; counts = and_right (shaped boxed t) (counts_true t) e }

pub right-sound : (t : List ℕ) → Right t → (sized t ≡ true) × (sound boxed t ≡ true)
unfolding sound
right-sound t c = let s = clauses-shaped t c.clauses in (s.0, and_both (shaped boxed t) (counts_true t) s.1 c.counts)
