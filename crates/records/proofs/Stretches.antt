-- Stretches of bytes, by the length that is left: past the end a stretch is empty and a number is 0, since no byte is there;
-- a number of one byte more is its low byte and the number above it.
use mathlib.Core.List.{List}
use mathlib.Core.Logic.{by_cases}
use mathlib.Core.Path.{◌≡◌, refl}
use Prim.Native.Nat.{ℕ, zero, suc, ◌+◌, ◌*◌, ◌≤◌, min}
use native.Mathlib.Omega.{arith}
use native.Mathlib.Numerals.{add-one}
use native.Mathlib.Decide.{dec_le}
use lib.ListN.{get_or, length, take, drop, length-take, drop_of_length-le, get_or-eq_default}
use lib.Seq.{take-nil}
use Rattle.paper.specs.Number.{number_at}
use Rattle.paper.specs.Record.{byte}
use Rattle.paper.specs.Table.{rec}

pub stretch-past : (s : List ℕ) (a b m n : ℕ) → length s ≤ a → length s ≤ b → take m (drop a s) ≡ take n (drop b s)
stretch-past s a b m n h k =
    rw (drop_of_length-le s {i = a} h, drop_of_length-le s {i = b} k, take-nil m, take-nil n)

-- past the end one place is as good as another
pub stretch-near : (s : List ℕ) (a b m k : ℕ) → b ≡ min a k → length s ≤ k → take m (drop b s) ≡ take m (drop a s)
stretch-near s a b m k e h =
    by_cases (dec_le a k)
    (λ (l : a ≤ k). let q : b ≡ a = omega arith in rw q)
    (λ (l : ¬ (a ≤ k)). stretch-past s b a m m (omega arith) (omega arith))

pub number_past : (w : ℕ) (s : List ℕ) (j : ℕ) → length s ≤ j → number_at w s j ≡ 0
unfolding number_at
number_past zero s j h = refl
number_past (suc w) s j h = rw (get_or-eq_default s 0 h, number_past w s (suc j) (omega arith))

pub number_more : (w : ℕ) (s : List ℕ) (j : ℕ) → number_at (suc w) s j ≡ get_or s j 0 + number_at w s (j + 1) * 256
unfolding number_at
number_more w s j = rw add-one

-- a record has 32 bytes at most
length_most : (t : List ℕ) (i : ℕ) → length (rec t i) ≤ 32
unfolding rec
length_most t i = rw length-take (omega arith)

pub byte_past : (t : List ℕ) (i j : ℕ) → 32 ≤ j → byte (rec t i) j ≡ 0
byte_past t i j h = get_or-eq_default (rec t i) 0 (omega (arith, length_most t i))

pub record-past : (w : ℕ) (t : List ℕ) (i j : ℕ) → 32 ≤ j → number_at w (rec t i) j ≡ 0
record-past w t i j h = number_past w (rec t i) j (omega (arith, length_most t i))
