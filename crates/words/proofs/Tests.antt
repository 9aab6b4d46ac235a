-- A number is below a bound or not; and a claim on every place of a line holds because it holds past the end and passes from
-- the places after one to that one.
use mathlib.Core.Bool.{true, false}
use mathlib.Core.Logic.{◌⊎◌, inl, inr}
use mathlib.Core.Path.{◌≡◌}
use Prim.Native.Nat.{ℕ, zero, suc, ◌+◌, ◌≤◌, ◌<◌}
use native.Mathlib.Omega.{arith}
use lib.Dec.{ltb}
use borrow.Author.Tests.{ltb-true, ltb-false}
use Rattle.laws.proofs.Tests.{truth}

pub side : (p n : ℕ) → (p < n) ⊎ (n ≤ p)
side p n = go (truth (ltb p n))
  where
    go : (ltb p n ≡ true) ⊎ (ltb p n ≡ false) → (p < n) ⊎ (n ≤ p)
    go (inl e) = inl (ltb-true p n e)
    go (inr e) = inr (ltb-false p n e)

-- from what holds at all later places
pub downward : (P : ℕ → Type 0) (n : ℕ) → ((p : ℕ) → n ≤ p → P p) → ((p : ℕ) → p < n → ((q : ℕ) → p < q → P q) → P p) → (p : ℕ) → P p
downward P n over step p = go n p (omega arith)
  where
    go : (k p : ℕ) → n ≤ p + k → P p
    go zero p l = over p (omega arith)
    go (suc k) p l = by (side p n) (λ q h. go k q (omega arith))
      where
        by : (p < n) ⊎ (n ≤ p) → ((q : ℕ) → p < q → P q) → P p
        by (inl h) r = step p h r
        by (inr h) r = over p h

-- from what holds at the next place
pub places : (P : ℕ → Type 0) (n : ℕ) → ((p : ℕ) → n ≤ p → P p) → ((p : ℕ) → p < n → P (suc p) → P p) → (p : ℕ) → P p
places P n over step = downward P n over (λ p l r. step p l (r (suc p) (omega arith)))
