-- A number comes digit by digit, and what is there so far is no more than the whole, which six digits keep to at most 999,999;
-- an octal digit is a digit.
use mathlib.Core.Bool.{Bool, true, ◌&&◌, cond}
use mathlib.Core.List.{List, [], ◌∷◌}
use mathlib.Core.Path.{◌≡◌, refl}
use Prim.Native.Nat.{ℕ, zero, suc, ◌+◌, ◌*◌, ◌-◌, ◌≤◌, ◌<◌}
use native.Mathlib.Omega.{arith}
use lib.ListN.{length, get_or, drop}
use lib.Seq.{drop-cons}
use lib.Dec.{eqb, leb}
use borrow.Author.Tests.{eqb-true, leb-true, le-leb}
use Rattle.paper.specs.Name.{all, in_number, pointed, user_name, counting}
use Rattle.paper.specs.Octal.{in_octal, digits, number, no_number}
use Rattle.paper.specs.Declaration.{given}
use Rattle.std.specs.List.{list_all}
use Rattle.words.proofs.Reaches.{all_list}
use Rattle.laws.proofs.Tests.{and_left, and_right}
use Rattle.laws.proofs.Digits.{counting-least, six-most, user-digits, user-six}
use Rattle.words.specs.SixDigits.{SixDigits}

all-at : (test : ℕ → Bool) (s : List ℕ) (i : ℕ) → all test s ≡ true → i < length s → test (get_or s i 0) ≡ true
unfolding all
all-at test [] i e l = let z : ⊥ = omega arith in absurd z
all-at test (x ∷ s) zero e l = and_left (test x) _ e
all-at test (x ∷ s) (suc i) e l = all-at test s i (and_right (test x) _ e) (omega arith)

-- k is made of the digits before place i
module _ (base : ℕ) (n : List ℕ) (k i : ℕ) (d : SixDigits base n) (h : i < length n) (m : counting base k (drop i n) ≡ counting base 0 n) where
  pub digit-least : 48 ≤ get_or n i 0
  digit-least = leb-true 48 (get_or n i 0) (and_left (leb 48 (get_or n i 0)) _ (all-at in_number n i d.digits h))

  pub digit-next : counting base (k * base + (get_or n i 0 - 48)) (drop (suc i) n) ≡ counting base 0 n
  unfolding counting
  digit-next = rw (drop-cons n i 0 h) at m

  pub digit-fits : k * base + (get_or n i 0 - 48) ≤ 999999
  digit-fits =
      let a = counting-least base (k * base + (get_or n i 0 - 48)) (drop (suc i) n) d.least in
      omega (arith, a, digit-next, six-most base n d.most d.digits d.six)

-- of a user's name, and of octal digits
pub user-six-digits : (n : List ℕ) → user_name n ≡ true → SixDigits 10 (drop 1 n)
user-six-digits n e = record { least = omega arith; most = omega arith; digits = user-digits n e; six = user-six n e }

pub user-long : (n : List ℕ) → user_name n ≡ true → 1 ≤ length n
unfolding user_name
user-long n e =
    let l = eqb-true (length n) 7 (and_right (pointed n) (eqb (length n) 7) (and_left (pointed n && eqb (length n) 7) _ e)) in
    omega arith

octal-digits : (s : List ℕ) → all in_octal s ≡ true → all in_number s ≡ true
unfolding all
octal-digits [] e = refl
octal-digits (x ∷ s) e =
    let a = and_left (in_octal x) _ e in
    let m = leb-true x 55 (and_right (leb 48 x) _ a) in
    rw (and_left (leb 48 x) _ a, le-leb x 57 (omega arith)) (octal-digits s (and_right (in_octal x) _ e))

-- an argument is a number by its tests
pub digits_tests : (n : List ℕ) → digits n ≡ cond (leb 1 (length n) && leb (length n) 6 && list_all in_octal n) (number (given (counting 8 0 n))) no_number
unfolding digits
digits_tests n = rw (all_list in_octal n)

pub octal-six-digits : (n : List ℕ) → list_all in_octal n ≡ true → length n ≤ 6 → SixDigits 8 n
octal-six-digits n e l = record { least = omega arith; most = omega arith; digits = octal-digits n (rw (all_list in_octal n) e); six = l }
