-- Each phase by what the record holds before and after: the tests of `phase_of` in their order, one law for each end.
-- Records that differ in kind differ, so where a kind is known the first test needs no word.
use mathlib.Core.Bool.{Bool, true, false, ◌&&◌, cond}
use mathlib.Core.List.{List}
use mathlib.Core.Logic.{◌≢◌}
use mathlib.Core.Path.{◌≡◌, refl, ap}
use Prim.Native.Nat.{ℕ, ◌≤◌, ◌<◌}
use native.Mathlib.Omega.{arith}
use borrow.Author.Tests.{ne_eqb, eq-eqb, lt-ltb, le-ltb}
use lib.Dec.{eqb}
use lib.ListN.{length, take, drop, length-drop}
use lib.Seq.{take_all}
use Rattle.paper.specs.Record.{byte}
use Rattle.paper.specs.Table.{rooms, rec}
use Rattle.paper.specs.Name.{same}
use Rattle.laws.proofs.Tests.{false-by}
use Rattle.laws.proofs.Entries.{same_true}
use Rattle.disk.specs.Phase.{only_counts, phase_of, phase}

module _ (x r : List ℕ) where
  pub phase-still : same x r ≡ true → phase_of x r ≡ 0
  unfolding phase_of
  phase-still e = rw e

  module _ (d : same x r ≡ false) where
    pub phase-was : byte x 0 ≡ 2 → phase_of x r ≡ 2
    unfolding phase_of
    phase-was k = rw (d, k)

    pub phase-is : byte x 0 ≢ 2 → byte r 0 ≡ 2 → phase_of x r ≡ 2
    unfolding phase_of
    phase-is n k = rw (d, k, ne_eqb _ _ n)

    pub phase-free : byte x 0 ≡ 0 → byte r 0 ≢ 2 → phase_of x r ≡ 1
    unfolding phase_of
    phase-free k n = rw (d, k, ne_eqb _ _ n)

    pub phase-freed : byte x 0 ≢ 2 → byte x 0 ≢ 0 → byte r 0 ≡ 0 → phase_of x r ≡ 3
    unfolding phase_of
    phase-freed n z k = rw (d, k, ne_eqb _ _ n, ne_eqb _ _ z)

    pub phase-counts : byte x 0 ≢ 2 → byte r 0 ≢ 2 → byte x 0 ≢ 0 → byte r 0 ≢ 0 → only_counts x r ≡ true → phase_of x r ≡ 3
    unfolding phase_of
    phase-counts n m z y c = rw (d, ne_eqb _ _ n, ne_eqb _ _ m, ne_eqb _ _ z, ne_eqb _ _ y, c)

    pub phase-held : byte x 0 ≢ 2 → byte r 0 ≢ 2 → byte x 0 ≢ 0 → byte r 0 ≢ 0 → only_counts x r ≡ false → phase_of x r ≡ 2
    unfolding phase_of
    phase-held n m z y c = rw (d, ne_eqb _ _ n, ne_eqb _ _ m, ne_eqb _ _ z, ne_eqb _ _ y, c)

  -- records of two kinds differ
  pub kinds-differ : byte x 0 ≢ byte r 0 → same x r ≡ false
  kinds-differ n = false-by (same x r) (λ e. n (ap (λ (s : List ℕ). byte s 0) (same_true x r e)))

-- ---- a heading with other counts

module _ (x r : List ℕ) where
  -- what stands past the counts, as many bytes of it as there are
  pub counts-back : byte x 0 ≡ 1 → same (take 12 x) (take 12 r) ≡ true
      → only_counts x r ≡ same (take (length x) (drop 16 x)) (take (length r) (drop 16 r))
  counts-back k e = rw (k, e, all_of x, all_of r)
    where
      all_of : (s : List ℕ) → take (length s) (drop 16 s) ≡ drop 16 s
      all_of s = take_all (length s) (drop 16 s) (simp length-drop (omega arith))

-- ---- a record of a table

-- in tables of one length a record has the phase of what it holds
pub phase-in : (t u : List ℕ) (i : ℕ) → length t ≡ length u → i < rooms t → phase t u i ≡ phase_of (rec t i) (rec u i)
unfolding phase
phase-in t u i e l = rw (eq-eqb _ _ e, lt-ltb _ _ l)

-- .. and past the last there is nothing to write
pub phase-past : (t u : List ℕ) (i : ℕ) → rooms t ≤ i → phase t u i ≡ 0
unfolding phase
phase-past t u i l = rw (le-ltb _ _ l) (go (eqb (length t) (length u)))
  where
    go : (b : Bool) → cond (b && false) (phase_of (rec t i) (rec u i)) 0 ≡ 0
    go true = refl
    go false = refl
