-- What digits make in a base up to ten: each one takes the most there can be from b to b * 10 + 9, so that six digits, as those
-- of `.nnnnnn` and those of RDS's numbers, make at most 999,999.
use mathlib.Core.Bool.{true, ◌&&◌}
use mathlib.Core.List.{List, [], ◌∷◌}
use mathlib.Core.Path.{◌≡◌}
use Prim.Native.Nat.{ℕ, zero, suc, ◌+◌, ◌*◌, ◌-◌, ◌≤◌}
use native.Mathlib.Omega.{arith}
use lib.ListN.{length, drop, length-drop}
use lib.Dec.{eqb, leb}
use borrow.Author.Tests.{eqb-true, leb-true}
use Rattle.paper.specs.Name.{all, in_number, pointed, user_name, counting, user_number}
use Rattle.laws.proofs.Tests.{and_left, and_right}

-- the most that so many digits make after the number b
most : ℕ → ℕ → ℕ
most b zero = b
most b (suc n) = most (b * 10 + 9) n

most-six : (n : ℕ) → n ≤ 6 → most 0 n ≤ 999999
unfolding most
most-six zero l = omega arith
most-six (suc zero) l = omega arith
most-six (suc (suc zero)) l = omega arith
most-six (suc (suc (suc zero))) l = omega arith
most-six (suc (suc (suc (suc zero)))) l = omega arith
most-six (suc (suc (suc (suc (suc zero))))) l = omega arith
most-six (suc (suc (suc (suc (suc (suc zero)))))) l = omega arith
most-six (suc (suc (suc (suc (suc (suc (suc n))))))) l = let z : ⊥ = omega arith in absurd z

times-most : (k base : ℕ) → base ≤ 10 → k * base ≤ k * 10
times-most zero base l = omega arith
times-most (suc k) base l = omega (arith, times-most k base l)

times-least : (k base : ℕ) → 1 ≤ base → k ≤ k * base
times-least zero base l = omega arith
times-least (suc k) base l = omega (arith, times-least k base l)

counting-most : (base k b : ℕ) (s : List ℕ) → base ≤ 10 → all in_number s ≡ true → k ≤ b → counting base k s ≤ most b (length s)
unfolding counting all most
counting-most base k b [] h e l = l
counting-most base k b (x ∷ s) h e l =
    let m = leb-true x 57 (and_right (leb 48 x) _ (and_left (in_number x) _ e)) in
    counting-most base (k * base + (x - 48)) (b * 10 + 9) s h (and_right (in_number x) _ e) (omega (arith, times-most k base h))

-- .. and no less than what was there
pub counting-least : (base k : ℕ) (s : List ℕ) → 1 ≤ base → k ≤ counting base k s
unfolding counting
counting-least base k [] h = omega arith
counting-least base k (x ∷ s) h = omega (arith, counting-least base (k * base + (x - 48)) s h, times-least k base h)

-- six digits at most
pub six-most : (base : ℕ) (s : List ℕ) → base ≤ 10 → all in_number s ≡ true → length s ≤ 6 → counting base 0 s ≤ 999999
six-most base s h e l = omega (arith, counting-most base 0 0 s h e (omega arith), most-six (length s) l)

-- the six digits of a user's name
pub user-digits : (n : List ℕ) → user_name n ≡ true → all in_number (drop 1 n) ≡ true
unfolding user_name
user-digits n e = and_right (pointed n && eqb (length n) 7) _ e

pub user-six : (n : List ℕ) → user_name n ≡ true → length (drop 1 n) ≤ 6
unfolding user_name
user-six n e =
    let a = and_left (pointed n && eqb (length n) 7) _ e in
    omega (arith, length-drop 1 n, eqb-true (length n) 7 (and_right (pointed n) _ a))

pub user-most : (n : List ℕ) → user_name n ≡ true → user_number n ≤ 999999
unfolding user_number
user-most n e = six-most 10 (drop 1 n) (omega arith) (user-digits n e) (user-six n e)
