-- On a sound table the lines are document 02's: a directory has at most 112 entries there, so that all of them are gathered, in the order
-- that it lists them in, and every entry's code is a digit.
use mathlib.Core.Bool.{Bool, true}
use mathlib.Core.List.{List, [], ◌∷◌, ◌++◌}
use mathlib.Core.Path.{◌≡◌, refl, ap₂}
use Prim.Native.Nat.{ℕ, zero, suc, ◌+◌, ◌%◌, ◌≤◌, ◌<◌}
use native.Mathlib.Omega.{arith}
use Rattle.paper.specs.Scan.{count_below}
use Rattle.paper.specs.Record.{byte, entry_code, heading_named}
use Rattle.paper.specs.Layout.{boxed}
use Rattle.paper.specs.Table.{rooms, rec}
use Rattle.paper.specs.Entry.{in_directory, stands}
use Rattle.paper.specs.Listing.{line, line_of, listed, entry_by, lines_by, tree}
use Rattle.laws.proofs.Lists.{Every}
use Rattle.laws.proofs.Entries.{stands-true}
use Rattle.laws.proofs.Orders.{every-listed}
use Rattle.listing.specs.Ordered.{line_shown}
use Rattle.listing.proofs.Inserted.{all-gathered}
use Rattle.tree.specs.Gathered.{inside}
use Rattle.tree.specs.Shown.{entry_over, tree_shown}

-- ---- codes

line_code : (t : List ℕ) (e : ℕ) → entry_code (rec t e) ≤ 7 → line_shown t e ≡ line_of boxed t e
unfolding line_shown line
line_code t e h = let q : entry_code (rec t e) % 8 ≡ entry_code (rec t e) = omega arith in rw q

-- ---- the tree

lines_same : (f g : ℕ → List ℕ) (es : List ℕ) → Every (λ e. f e ≡ g e) es → lines_by f es ≡ lines_by g es
unfolding lines_by
lines_same f g [] h = refl
lines_same f g (e ∷ es) h = ap₂ ◌++◌ h.0 (lines_same f g es h.1)

entry-same : (t : List ℕ) (f g : ℕ → List ℕ) (blanks e : ℕ) → ((h : ℕ) → f h ≡ g h) → entry_code (rec t e) ≤ 7
    → entry_over f t blanks e ≡ entry_by boxed g t blanks e
unfolding entry_over entry_by
entry-same t f g blanks e q l = rw (line_code t e l, q (heading_named (rec t e)))

-- where no directory has more than 112 entries and every entry's code is a digit
module _ (t : List ℕ) (few : (h : ℕ) → count_below (inside t h) (rooms t) ≤ 112)
    (digits : (e : ℕ) → e < rooms t → byte (rec t e) 0 ≡ 2 → entry_code (rec t e) ≤ 7) where
  pub tree-shown : (depth blanks : ℕ) (test : List ℕ → Bool) → ((r : List ℕ) → test r ≡ true → byte r 0 ≡ 2)
      → count_below (λ i. test (rec t i)) (rooms t) ≤ 112 → tree_shown t depth blanks test ≡ tree boxed t depth blanks test
  unfolding tree_shown tree
  tree-shown zero blanks test k c = refl
  tree-shown (suc depth) blanks test k c =
      rw (all-gathered 112 t test c)
      (lines_same _ _ (listed boxed t test)
      (every-listed _ t test (λ i l p.
      entry-same t _ _ blanks i
      (λ h. tree-shown depth (blanks + 2) (stands (in_directory h)) (λ r x. (stands-true (in_directory h) r x).kind) (few h))
      (digits i l (k (rec t i) p)))))
