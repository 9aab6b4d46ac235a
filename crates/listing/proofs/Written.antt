-- Bytes written one stretch after the other are the joined stretches written at once; so a line is its front, its name and its end,
-- and the lines that are left, written after those before them, are all the lines.
use mathlib.Core.List.{List, [], ◌∷◌, ◌++◌}
use mathlib.Core.Path.{◌≡◌, refl, sym, ap, ◌∙◌}
use Prim.Native.Nat.{ℕ, suc, ◌+◌, ◌≤◌, ◌<◌}
use native.Mathlib.Omega.{arith}
use native.Mathlib.Numerals.{add-one}
use lib.ListN.{length, take, drop, get_or, length-set, drop_of_length-le}
use lib.Seq.{sets, drop-cons}
use Rattle.paper.specs.Layout.{name_of, boxed}
use Rattle.paper.specs.Table.{rec}
use Rattle.paper.specs.Listing.{line}
use Rattle.records.proofs.Copies.{sets-append}
use Rattle.listing.specs.Ordered.{line_shown, lines_shown}
use Rattle.listing.proofs.Sizes.{length-line, name-short}

-- ---- a line

line-shown : (t : List ℕ) (e : ℕ) → line_shown t e ≡ take 9 (line_shown t e) ++ (name_of boxed (rec t e) ++ 13 ∷ 10 ∷ [])
unfolding line_shown line
line-shown t e = refl

length-shown : (t : List ℕ) (e : ℕ) → length (line_shown t e) ≡ 11 + length (name_of boxed (rec t e))
unfolding line_shown
length-shown t e = rw (length-set, length-line)

length_front : (t : List ℕ) (e : ℕ) → length (take 9 (line_shown t e)) ≡ 9
unfolding line_shown line
length_front t e = refl

pub record Wrote (t l : List ℕ) (e at k : ℕ) (o : List ℕ) : Type 0 where
  pub bytes : o ≡ sets l at (line_shown t e)
  pub after : at + 9 + k + 2 ≡ at + length (line_shown t e)
  pub short : at + 9 + k + 2 ≤ at + 21

-- a line's three parts, each written after the one before it; the name has k bytes
pub wrote : (t l m n o : List ℕ) (e at k : ℕ) (f : List ℕ) → f ≡ take 9 (line_shown t e) → k ≡ length (name_of boxed (rec t e)) → m ≡ sets l at f
    → n ≡ sets m (at + 9) (name_of boxed (rec t e)) → o ≡ sets n (at + 9 + k) (13 ∷ 10 ∷ []) → Wrote t l e at k o
wrote t l m n o e at k f p q a b c =
    record {
      bytes =
          rw (c, b, a, q, p)
          (sym
          (ap (sets l at) (line-shown t e) ∙ sets-append (take 9 (line_shown t e)) (name_of boxed (rec t e) ++ 13 ∷ 10 ∷ []) l at
          ∙ rw length_front (sets-append (name_of boxed (rec t e)) (13 ∷ 10 ∷ []) (sets l at (take 9 (line_shown t e))) (at + 9))));
      after = rw (q, length-shown t e) (omega arith);
      short = rw q (omega (arith, name-short (rec t e)));
    }

-- ---- one turn

module _ (t order l : List ℕ) (at m : ℕ) (x : List ℕ) (inv : sets l at (lines_shown t (drop m order)) ≡ x) where
  -- every line is written
  pub lines_done : length order ≤ m → l ≡ x
  unfolding lines_shown
  lines_done h = rw (drop_of_length-le order {i = m} h) at inv

  -- one line more
  pub line_more : (next : List ℕ) (end : ℕ) → m < length order → next ≡ sets l at (line_shown t (get_or order m 0))
      → end ≡ at + length (line_shown t (get_or order m 0)) → sets next end (lines_shown t (drop (m + 1) order)) ≡ x
  unfolding lines_shown
  line_more next end h a b =
      rw (a, b, add-one)
      (sym (sets-append (line_shown t (get_or order m 0)) (lines_shown t (drop (suc m) order)) l at)
      ∙ rw (drop-cons order m 0 h) at inv)
