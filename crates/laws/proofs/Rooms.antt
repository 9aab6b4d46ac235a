-- The free records: a scan lists the numbers that pass in ascending order, so that the rooms of new records differ.
-- Each is below the bound and free, and a free record that is all zero is blank, byte by byte.
use mathlib.Core.Bool.{true}
use mathlib.Core.List.{List}
use mathlib.Core.Logic.{by_cases}
use mathlib.Core.Path.{◌≡◌, sym, ◌∙◌}
use Prim.Native.Nat.{ℕ, ◌+◌, ◌<◌}
use native.Mathlib.Omega.{arith}
use native.Mathlib.Nat.{zero-add}
use native.Mathlib.Decide.{dec_lt}
use lib.ListN.{length, get_or-replicate}
use lib.Dec.{eqb}
use borrow.Author.Tests.{eqb-true}
use Rattle.paper.specs.Record.{byte, is_kind, zeros, blank}
use Rattle.paper.specs.Table.{rooms, rec, frees, room}
use Rattle.laws.proofs.Scans.{all_true}
use Rattle.laws.proofs.Lists.{every-at, every-below, rising}
use Rattle.laws.proofs.Lay.{ext-rec, length-blank}

-- the rooms rise
pub room-rise : (t : List ℕ) (m n : ℕ) → m < n → n < length (frees t) → room t m < room t n
unfolding frees
room-rise t = rising (λ i. is_kind 0 (rec t i)) (rooms t) (rooms t)

-- so that two of them are one only as the same
pub room_apart : (t : List ℕ) (m n : ℕ) → m < length (frees t) → n < length (frees t) → room t m ≡ room t n → m ≡ n
room_apart t m n a b e =
    by_cases (dec_lt m n) (λ (l : m < n). let z : ⊥ = omega (arith, room-rise t m n l b) in absurd z)
    (λ (l : ¬ (m < n)). by_cases (dec_lt n m) (λ (k : n < m). let z : ⊥ = omega (arith, room-rise t n m k a) in absurd z) (λ (k : ¬ (n < m)). omega arith))

room-passes : (t : List ℕ) (m : ℕ) → m < length (frees t) → (room t m < rooms t) × (is_kind 0 (rec t (room t m)) ≡ true)
unfolding frees
room-passes t m l = every-at (λ i. (i < rooms t) × (is_kind 0 (rec t i) ≡ true)) (frees t) m (rooms t) l (every-below (λ i. is_kind 0 (rec t i)) (rooms t))

pub room-below : (t : List ℕ) (m : ℕ) → m < length (frees t) → room t m < rooms t
room-below t m l = (room-passes t m l).0

pub room-kind : (t : List ℕ) (m : ℕ) → m < length (frees t) → byte (rec t (room t m)) 0 ≡ 0
room-kind t m l = eqb-true _ _ (room-passes t m l).1

-- a record that is all zero is blank
pub free-blank : (r : List ℕ) → length r ≡ 32 → zeros 0 32 r ≡ true → r ≡ blank
unfolding zeros blank
free-blank r e z =
    ext-rec r blank e length-blank (λ j l. eqb-true _ _ (simp zero-add at (all_true (λ i. eqb (byte r (0 + i)) 0) 32 j l z)) ∙ sym (get_or-replicate 32 j 0 0 l))
