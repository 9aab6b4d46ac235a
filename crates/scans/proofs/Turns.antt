-- One turn of a scan: where the number tested does not pass, nothing has passed yet; where it passes, one more is counted.
-- A scan that has found nothing up to i has found nothing below any bound up to i.
use mathlib.Core.Bool.{Bool, true, false, ◌||◌, cond}
use mathlib.Core.Path.{◌≡◌, refl, sym, ◌∙◌}
use Prim.Native.Nat.{ℕ, zero, suc, ◌+◌, ◌≤◌}
use native.Mathlib.Omega.{arith}
use lib.Dec.{ltb}
use borrow.Author.Tests.{lt-ltb}
use Rattle.paper.specs.Scan.{any_below, count_below}
use Rattle.laws.proofs.Tests.{or-none}
use Rattle.laws.proofs.Scans.{any-more, any_false, any_none}
use Rattle.laws.proofs.Counts.{count-more}

pub any-start : (p : ℕ → Bool) → any_below p 0 ≡ false
unfolding any_below
any-start p = refl

pub any-still : (p : ℕ → Bool) (n : ℕ) → p n ≡ false → any_below p n ≡ false → any_below p (n + 1) ≡ false
any-still p n e f = any-more p n ∙ or-none (p n) (any_below p n) e f

pub any-shorter : (p : ℕ → Bool) (m n : ℕ) → m ≤ n → any_below p n ≡ false → any_below p m ≡ false
any-shorter p m n l e = any_none p m (λ i h. any_false p n i (omega arith) e)

pub count-start : (p : ℕ → Bool) → 0 ≡ count_below p 0
unfolding count_below
count-start p = refl

pub count-on : (p : ℕ → Bool) (n k : ℕ) → p n ≡ true → k ≡ count_below p n → k + 1 ≡ count_below p (n + 1)
count-on p n k e f = rw (count-more, e, f)

pub count-off : (p : ℕ → Bool) (n k : ℕ) → p n ≡ false → k ≡ count_below p n → k ≡ count_below p (n + 1)
count-off p n k e f = rw (count-more, e, f)

-- some number passes where one is counted
pub any-count : (p : ℕ → Bool) (n : ℕ) → any_below p n ≡ ltb 0 (count_below p n)
unfolding any_below count_below
any-count p zero = refl
any-count p (suc n) = go (p n) (any-count p n)
  where
    go : (b : Bool) → any_below p n ≡ ltb 0 (count_below p n)
        → (b || any_below p n) ≡ ltb 0 (cond b (count_below p n + 1) (count_below p n))
    go true e = sym (lt-ltb 0 (count_below p n + 1) (omega arith))
    go false e = e
