-- Each flush is needed, because a table is computed that does not mend to the table before or the table after: one of the two with one record of
-- the other, which is what a disk may hold where the flush between that record's phase and the others' is left out.
use mathlib.Core.Bool.{Bool, true, ◌&&◌, not}
use mathlib.Core.List.{List, [], ◌∷◌}
use mathlib.Core.Path.{◌≡◌, refl}
use Prim.Native.Nat.{ℕ}
use lib.Dec.{eqb}
use lib.ListN.{replicate}
use Rattle.paper.specs.Layout.{boxed}
use Rattle.paper.specs.Table.{rec, lay}
use Rattle.paper.specs.Name.{same}
use Rattle.paper.specs.Sound.{sound}
use Rattle.paper.specs.Mend.{mended}
use Rattle.paper.specs.Answer.{requested}
use Rattle.paper.proofs.Cases.{hold}
use Rattle.disk.specs.Phase.{first, entry, last, phase_of, phase}

-- `WRS M .R`, `WRS* M .R`, `DEL .R`, `DST .R` and `DUP .R .G`
abbrev wrs : List ℕ
wrs = 87 ∷ 82 ∷ 83 ∷ 32 ∷ 77 ∷ 32 ∷ 46 ∷ 82 ∷ []

abbrev rewrite : List ℕ
rewrite = 87 ∷ 82 ∷ 83 ∷ 42 ∷ 32 ∷ 77 ∷ 32 ∷ 46 ∷ 82 ∷ []

abbrev del : List ℕ
del = 68 ∷ 69 ∷ 76 ∷ 32 ∷ 46 ∷ 82 ∷ []

abbrev dst : List ℕ
dst = 68 ∷ 83 ∷ 84 ∷ 32 ∷ 46 ∷ 82 ∷ []

abbrev dup : List ℕ
dup = 68 ∷ 85 ∷ 80 ∷ 32 ∷ 46 ∷ 82 ∷ 32 ∷ 46 ∷ 71 ∷ []

-- the table after a line of user 1, with one byte of text
abbrev after : List ℕ → List ℕ → List ℕ
after t line = (requested boxed t line (65 ∷ []) [] 1 9).table

-- x, mended, is neither the table before a line nor the table after it
abbrev neither : List ℕ → List ℕ → List ℕ → Bool
neither t line x = not (same (mended x) t) && not (same (mended x) (after t line))

-- record i is of phase p; with it alone as before, or it alone as after, the table mends to neither. Every definition is open, as in the
-- cases marked P
abbrev granted : List ℕ → List ℕ → ℕ → ℕ → Bool
granted t line i p = eqb (requested boxed t line (65 ∷ []) [] 1 9).answer.number 0 && eqb (phase t (after t line) i) p

unfoldable pub late : List ℕ → List ℕ → ℕ → ℕ → Bool
unfolding hold phase_of phase
late t line i p = granted t line i p && neither t line (lay (after t line) i (rec t i))

unfoldable pub early : List ℕ → List ℕ → ℕ → ℕ → Bool
unfolding hold phase_of phase
early t line i p = granted t line i p && neither t line (lay t i (rec (after t line) i))

-- the first phase and the entry together: a new file's heading and entry without its text
pub first-flush : late (replicate 96 0) wrs 1 first ≡ true
unfolding late
first-flush = refl

-- the entry and the last phase together: the file displaced is cleared, and its entry still there
pub entry-flush : late (after (replicate 160 0) wrs) wrs 2 entry ≡ true
unfolding late
entry-flush = refl

-- the same of a DEL: its text is cleared, and its entry still there
pub del-flush : early (after (replicate 96 0) wrs) del 1 last ≡ true
unfolding early
del-flush = refl

-- a DST, the heading and the entries together: one entry is cleared, and the heading is still there with the other
pub dst-flush : early (after (after (replicate 128 0) wrs) dup) dst 3 entry ≡ true
unfolding early
dst-flush = refl

-- a rewrite of the file in the records 0 and 1, cut after its text is cleared; the table after the stop number k, with record i of
-- another: not to be mended
unfoldable pub mixed : List ℕ → ℕ → ℕ → (List ℕ → List ℕ) → Bool
unfolding hold phase_of phase
mixed t k i other = not (sound boxed (mended (lay (requested boxed t rewrite (65 ∷ []) [] 1 k).table i (rec (other t) i))))

-- the mark and the text together: the old text is cleared, and its heading as before
pub mark-flush : mixed (after (replicate 96 0) wrs) 2 0 (λ t. t) ≡ true
unfolding mixed
mark-flush = refl

-- the text and the unmarking together: the heading is unmarked, and the new text is not there yet
pub unmark-flush : mixed (after (replicate 96 0) wrs) 4 1 (λ t. (requested boxed t rewrite (65 ∷ []) [] 1 2).table) ≡ true
unfolding mixed
unmark-flush = refl
