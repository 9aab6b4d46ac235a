-- A sound table has no rank twice: two entries of one rank would bear one name in one place.
-- So what `is_true` and `repair` ask of a table is there wherever they are called.
use mathlib.Core.Bool.{true}
use mathlib.Core.List.{List}
use mathlib.Core.Path.{◌≡◌}
use Prim.Native.Nat.{ℕ}
use native.Mathlib.Omega.{arith}
use borrow.Author.Tests.{eqb-true}
use Rattle.paper.specs.Layout.{boxed}
use Rattle.paper.specs.Table.{sized}
use Rattle.paper.specs.Sound.{sound}
use Rattle.paper.specs.Index.{is_true}
use Rattle.demands.proofs.Sound.Clauses.{sound-clauses}
use Rattle.index_laws.specs.Judged.{apart, judged}
use Rattle.index_laws.proofs.Truth.{apart_by}
use Rattle.index_demands.proofs.Ranks.{rank-once}

pub sound-apart : (t : List ℕ) → sized t ≡ true → sound boxed t ≡ true → apart t ≡ true
sound-apart t s e =
    apart_by t (λ i j a b p q z. let w = rank-once t (sound-clauses t s e) i j (omega arith) b (eqb-true _ _ p) (eqb-true _ _ q) z in omega arith)

-- so that on a sound table the linear test is the definition
pub sound-judged : (t x : List ℕ) → sized t ≡ true → sound boxed t ≡ true → judged t x ≡ is_true t x
unfolding judged
sound-judged t x s e = rw (sound-apart t s e)
