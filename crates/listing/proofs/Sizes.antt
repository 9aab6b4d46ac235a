-- The lines of entries in order are as long as those of the same entries in any order: putting one in its place adds its line.
-- So the length is the sum over the records that pass, eleven bytes each and the name.
use mathlib.Core.Bool.{Bool, true, false, cond}
use mathlib.Core.List.{List, [], ◌∷◌, ◌++◌}
use mathlib.Core.Path.{◌≡◌, refl, ◌∙◌}
use Prim.Native.Nat.{ℕ, zero, suc, ◌+◌, ◌/◌, ◌%◌, ◌^◌, ◌≤◌}
use native.Mathlib.Omega.{arith}
use native.Mathlib.Numerals.{add-one}
use lib.Dec.{eqb}
use lib.ListN.{length, length-append}
use Rattle.paper.specs.Scan.{join_below, list_below}
use Rattle.paper.specs.Layout.{name_of, six_name, packed_name, unpacking, ahead, boxed}
use Rattle.paper.specs.Table.{rooms, rec}
use Rattle.paper.specs.Name.{before}
use Rattle.paper.specs.Listing.{line, line_of, insert, in_order, listed, lines}
use Rattle.listing.specs.Ordered.{size_at, size_below}

pub length-line : (h r : List ℕ) → length (line boxed h r) ≡ 11 + length (name_of boxed r)
unfolding line
length-line h r = rw length-append (omega arith)

unpacking-short : (w x : ℕ) → length (unpacking w x) ≤ w
unfolding unpacking
unpacking-short zero x = omega arith
unpacking-short (suc w) x = omega (arith, unpacking-short w x, go (x / 64 ^ w % 64) (unpacking w x))
  where
    two : (b : Bool) (a : ℕ) → length (cond b [] (a ∷ [])) ≤ 1
    two true a = omega arith
    two false a = omega arith

    go : (c : ℕ) (s : List ℕ) → length (ahead c s) ≤ suc (length s)
    go c [] = unfold ahead in two (eqb c 0) (c + 32)
    go c (b ∷ s) = unfold ahead in omega arith

pub name-short : (r : List ℕ) → length (name_of boxed r) ≤ 10
unfolding six_name
name-short r = unpacking-short 10 (packed_name r)

length-insert : (t : List ℕ) (e : ℕ) (is : List ℕ) → length (lines boxed t (insert boxed t e is)) ≡ length (line_of boxed t e) + length (lines boxed t is)
unfolding insert lines
length-insert t e [] = rw length-append
length-insert t e (i ∷ is) = go (before (name_of boxed (rec t e)) (name_of boxed (rec t i))) (length-insert t e is)
  where
    go : (b : Bool) → length (lines boxed t (insert boxed t e is)) ≡ length (line_of boxed t e) + length (lines boxed t is)
        → length (lines boxed t (cond b (e ∷ i ∷ is) (i ∷ insert boxed t e is))) ≡ length (line_of boxed t e) + length (line_of boxed t i ++ lines boxed t is)
    go true r = length-append (line_of boxed t e) (line_of boxed t i ++ lines boxed t is)
    go false r = simp length-append (omega arith)

length-order : (t : List ℕ) (es : List ℕ) → length (lines boxed t (in_order boxed t es)) ≡ length (lines boxed t es)
unfolding in_order lines
length-order t [] = refl
length-order t (e ∷ es) = length-insert t e (in_order boxed t es) ∙ rw (length-append, length-order t es)

lines-append : (t : List ℕ) (xs ys : List ℕ) → length (lines boxed t (xs ++ ys)) ≡ length (lines boxed t xs) + length (lines boxed t ys)
unfolding lines
lines-append t [] ys = omega arith
lines-append t (x ∷ xs) ys = simp length-append (omega (arith, lines-append t xs ys))

size-lines : (t : List ℕ) (test : List ℕ → Bool) (n : ℕ) → length (lines boxed t (list_below (λ i. test (rec t i)) n)) ≡ size_below t test n
unfolding join_below size_below lines
size-lines t test zero = refl
size-lines t test (suc n) =
    lines-append t (list_below (λ i. test (rec t i)) n) (cond (test (rec t n)) (n ∷ []) []) ∙ go (test (rec t n)) (size-lines t test n)
  where
    go : (b : Bool) → length (lines boxed t (list_below (λ i. test (rec t i)) n)) ≡ size_below t test n
        → length (lines boxed t (list_below (λ i. test (rec t i)) n)) + length (lines boxed t (cond b (n ∷ []) []))
        ≡ size_below t test n + cond b (11 + length (name_of boxed (rec t n))) 0
    go true e = rw (length-append, length-line) (omega arith)
    go false e = omega arith

pub size_listed : (t : List ℕ) (test : List ℕ → Bool) → length (lines boxed t (listed boxed t test)) ≡ size_below t test (rooms t)
unfolding listed
size_listed t test = length-order t _ ∙ size-lines t test (rooms t)

-- ---- one turn of the sum

pub size_start : (t : List ℕ) (test : List ℕ → Bool) → 0 ≡ size_below t test 0
unfolding size_below
size_start t test = refl

pub size_more : (t : List ℕ) (test : List ℕ → Bool) (n k s : ℕ) → k ≡ size_below t test n → s ≡ size_at t test n
    → k + s ≡ size_below t test (n + 1)
unfolding size_below
size_more t test n k s e f = rw (add-one, e, f)
