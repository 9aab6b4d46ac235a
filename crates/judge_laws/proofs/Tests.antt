-- Tests joined, numbers of two bytes compared, and options by cases.
-- The join computes once the first is known; two bytes are told from their number, since the low one is below 256.
use Rattle.std.proofs.Common.{Option, None, Some, MatchOption}
use Rattle.std.specs.Bool.{then_some}
use mathlib.Core.Bool.{Bool, true, false, ◌&&◌}
use mathlib.Core.Path.{◌≡◌, refl}
use Prim.Native.Nat.{ℕ, ◌+◌, ◌*◌, ◌<◌}
use native.Mathlib.Omega.{arith}
use lib.Dec.{eqb}
use borrow.Author.Tests.{eqb-true, eq-eqb}
use Rattle.laws.proofs.Tests.{and_left, and_right, and_both, same_truth}

pub and-past : (a b : Bool) → a ≡ true → (a && b) ≡ b
and-past a b p = rw p

pub and-past-right : (a b : Bool) → b ≡ true → (a && b) ≡ a
and-past-right true b p = p
and-past-right false b p = refl

pub both-eqb : (a b x y : ℕ) → a < 256 → x < 256 → eqb (a + b * 256) (x + y * 256) ≡ (eqb a x && eqb b y)
both-eqb a b x y l m =
    same_truth (eqb (a + b * 256) (x + y * 256)) (eqb a x && eqb b y)
    (λ e. let q : a + b * 256 ≡ x + y * 256 = eqb-true _ _ e in and_both (eqb a x) (eqb b y) (eq-eqb a x (omega arith)) (eq-eqb b y (omega arith)))
    (λ e. let q : a ≡ x = eqb-true _ _ (and_left (eqb a x) (eqb b y) e) in
    let s : b ≡ y = eqb-true _ _ (and_right (eqb a x) (eqb b y) e) in
    eq-eqb (a + b * 256) (x + y * 256) (omega arith))

-- an option by cases: what follows from either case, and one that is there where a test passes
pub match-map : {A : Type 0} (o : Option A) (P R : Type 0) (Q S : A → Type 0) → (P → R) → ((x : A) → Q x → S x)
    → MatchOption o P Q → MatchOption o R S
match-map None P R Q S f g m = f m
match-map (Some x) P R Q S f g m = g x m

pub match-then : {A : Type 0} (b : Bool) (x : A) (o : Option A) (P : Type 0) (Q : A → Type 0)
    → o ≡ then_some b x → (b ≡ false → P) → (b ≡ true → Q x) → MatchOption o P Q
match-then true x o P Q e f g = rw e (g refl)
match-then false x o P Q e f g = rw e (f refl)
