-- A heading of two sound tables that differs in bytes 12 to 15 alone differs in its counts alone: a simple file's bytes 14-15 are zero in
-- both. And what differs in its counts alone passes the test of those bytes.
use mathlib.Core.Bool.{true, false, ◌&&◌}
use mathlib.Core.List.{List}
use mathlib.Core.Logic.{◌≢◌, by_cases}
use mathlib.Core.Path.{◌≡◌, sym, ◌∙◌}
use Prim.Native.Nat.{ℕ, ◌+◌, ◌<◌}
use native.Mathlib.Omega.{arith}
use native.Mathlib.Decide.{ℕ_discrete}
use lib.Dec.{eqb}
use lib.ListN.{length, get_or, take, drop, length-take, length-drop}
use lib.Seq.{get_or-take, get_or-drop, ext_get_or}
use borrow.Author.Tests.{eqb-true}
use Rattle.paper.specs.Record.{byte, is_kind, heading_type, directory, zeros}
use Rattle.paper.specs.Name.{same}
use Rattle.laws.proofs.Tests.{and_left, and_right, and_both, not-both, false-by}
use Rattle.laws.proofs.Scans.{all_true}
use Rattle.laws.proofs.Entries.{same_true, eq-same, typed-by}
use Rattle.laws.proofs.Recounts.{front-byte}
use Rattle.demands.proofs.Sound.Clauses.{HeadingOwn, heading-fields}
use Rattle.demands.proofs.Mending.Part.{ButCounts}
use Rattle.disk.specs.Phase.{only_counts}

zero-at : (j n : ℕ) (r : List ℕ) → zeros j n r ≡ true → (i : ℕ) → i < n → byte r (j + i) ≡ 0
unfolding zeros
zero-at j n r e i l = eqb-true _ _ (all_true (λ k. eqb (byte r (j + k)) 0) n i l e)

-- two bytes that are zero in both
zero-both : (x r : List ℕ) → length x ≡ 32 → length r ≡ 32 → zeros 14 2 x ≡ true → zeros 14 2 r ≡ true → take 2 (drop 14 r) ≡ take 2 (drop 14 x)
zero-both x r lx lr zx zr =
    ext_get_or 0 (take 2 (drop 14 r)) (take 2 (drop 14 x)) (two r lr ∙ sym (two x lx))
    (λ i l. at r zr i (rw (two r lr) at l) ∙ sym (at x zx i (rw (two r lr) at l)))
  where
    two : (s : List ℕ) → length s ≡ 32 → length (take 2 (drop 14 s)) ≡ 2
    two s e = simp (length-take, length-drop) (omega arith)

    at : (s : List ℕ) → zeros 14 2 s ≡ true → (i : ℕ) → i < 2 → get_or (take 2 (drop 14 s)) i 0 ≡ 0
    at s z i l = get_or-take 2 (drop 14 s) i 0 l ∙ get_or-drop 14 s i 0 ∙ zero-at 14 2 s z i l

module _ (x r : List ℕ) where
  -- the test passes
  pub but-only : ButCounts x r → only_counts x r ≡ true
  but-only b =
      and_both (is_kind 1 x) _ (rw b.kind) (and_both (same (take 12 x) (take 12 r)) _
      (eq-same (take 12 x) (take 12 r) (sym b.front)) (eq-same (drop 16 x) (drop 16 r) (sym b.back)))

  -- what is no heading after does not pass it
  pub not-only : byte r 0 ≢ 1 → only_counts x r ≡ false
  not-only n =
      false-by (only_counts x r) (λ e.
      let b = and_right (is_kind 1 x) _ e in
      let front = sym (same_true (take 12 x) (take 12 r) (and_left (same (take 12 x) (take 12 r)) _ b)) in
      n (front-byte x r front 0 (omega arith) ∙ eqb-true _ _ (and_left (is_kind 1 x) _ e)))

  -- and where it passes the counts alone are others
  pub only-but : length x ≡ 32 → length r ≡ 32 → HeadingOwn x → HeadingOwn r → only_counts x r ≡ true → ButCounts x r
  only-but lx lr hx hr e =
      record {
        kind = kind;
        front = front;
        file = λ n. zero-both x r lx lr ((heading-fields x hx).file (type n)) ((heading-fields r hr).file (front-byte x r front 1 (omega arith) ∙ type n));
        back = sym (same_true (drop 16 x) (drop 16 r) (and_right (same (take 12 x) (take 12 r)) _ b));
      }
    where
      b : (same (take 12 x) (take 12 r) && same (drop 16 x) (drop 16 r)) ≡ true
      b = and_right (is_kind 1 x) _ e

      kind : byte x 0 ≡ 1
      kind = eqb-true _ _ (and_left (is_kind 1 x) _ e)

      front : take 12 r ≡ take 12 x
      front = sym (same_true (take 12 x) (take 12 r) (and_left (same (take 12 x) (take 12 r)) _ b))

      -- what is no directory is a simple file
      type : directory x ≡ false → heading_type x ≡ 1
      type n =
          by_cases (ℕ_discrete (heading_type x) 0) (λ (q : heading_type x ≡ 0). absurd (not-both (typed-by 0 x kind q) n))
          (λ (q : heading_type x ≢ 0). omega (arith, (heading-fields x hx).type))
