-- What a position holds is what is left of the text from its place on, at most a whole block:
-- before the last block that is a whole one, at the last the rest, and past it nothing.
use mathlib.Core.Logic.{by_cases}
use mathlib.Core.Path.{◌≡◌}
use Prim.Native.Nat.{ℕ, ◌+◌, ◌*◌, ◌-◌, ◌≤◌, ◌<◌, min}
use native.Mathlib.Omega.{arith}
use native.Mathlib.Decide.{dec_lt}
use borrow.Author.Tests.{lt-ltb, le-ltb}
use Rattle.paper.specs.Block.{blocks, share}

pub share-full : (n p : ℕ) → p + 1 < blocks n → share n p ≡ 24
unfolding share
share-full n p h = rw (lt-ltb (p + 1) (blocks n) h)

pub share-rest : (n p : ℕ) → blocks n ≤ p + 1 → share n p ≡ n - p * 24
unfolding share
share-rest n p h = rw (le-ltb (p + 1) (blocks n) h)

pub share-left : (n p : ℕ) → min (n - p * 24) 24 ≡ share n p
share-left n p =
    by_cases (dec_lt (p + 1) (blocks n))
    (λ (h : p + 1 < blocks n). omega (arith, share-full n p h))
    (λ (h : ¬ (p + 1 < blocks n)). omega (arith, share-rest n p (omega arith)))
