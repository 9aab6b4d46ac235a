-- A table in order, mended: while the entry is not there it is the table before with some new records in free ones, and from then on it is
-- the table after with some records that go; and counts of either. Mending takes away the one and the other, and corrects the counts.
use mathlib.Core.List.{List}
use mathlib.Core.Logic.{◌⊎◌, inl, inr, by_cases}
use mathlib.Core.Path.{◌≡◌, sym, ◌∙◌}
use Prim.Native.Nat.{ℕ, ◌<◌}
use native.Mathlib.Omega.{arith}
use native.Mathlib.Decide.{dec_lt}
use lib.ListN.{length}
use Rattle.paper.specs.Table.{rooms, rec}
use Rattle.paper.specs.Mend.{mended}
use Rattle.laws.proofs.Lay.{kind-blank}
use Rattle.demands.proofs.Sound.Right.{Right}
use Rattle.demands.proofs.Mending.Part.{Alike, equal}
use Rattle.demands.proofs.Mending.Counts.{alike-sym}
use Rattle.demands.proofs.Mending.Debris.{sound-keeps, laid, Left, ours, litter, left-mends}
use Rattle.demands.proofs.PowerCut.Cut.{Counts}
use Rattle.disk.specs.Phase.{first, entry, phase}
use Rattle.disk.specs.Disk.{Agrees, None, NoneLast, All, InOrder, in_first, at_entry, in_last}
use Rattle.disk.proofs.Phases.{phase-past}
use Rattle.disk_demands.proofs.OnlyCounts.{not-only}
use Rattle.disk_demands.proofs.Turns.{Turn, kept, laid, counts, gone, Turns, same-phase, kept-phase, laid-phase, gone-phase, counts-phase}

module _ (t u : List ℕ) (long : length u ≡ length t) (d : Turns t u) where
  -- ---- the record that counts

  in_table : (i : ℕ) → phase t u i ≡ entry → i < rooms t
  in_table i p =
      by_cases (dec_lt i (rooms t)) (λ (l : i < rooms t). l)
      (λ (n : ¬ (i < rooms t)). let z : ⊥ = omega (arith, phase-past t u i (omega arith)) in absurd z)

  differs : (i : ℕ) → phase t u i ≡ entry → rec u i ≡ rec t i → ⊥
  differs i p e = omega (arith, same-phase t u long i (in_table i p) e)

  not-kept : (i : ℕ) → phase t u i ≡ entry → (phase t u i ≡ 0) ⊎ (phase t u i ≡ 3) → ⊥
  not-kept i p (inl e) = omega arith
  not-kept i p (inr e) = omega arith

  pub counts-there : (i : ℕ) → phase t u i ≡ entry → i ≡ d.at
  counts-there i p = go (d.each i l)
    where
      l : i < rooms t
      l = in_table i p

      go : Turn t u d.at i → i ≡ d.at
      go (kept a) = absurd (not-kept i p (kept-phase t u long i l a))
      go (laid b g) = let z : ⊥ = omega (arith, laid-phase t u long i l b g) in absurd z
      go (counts q c) = q
      go (gone b g) = let z : ⊥ = omega (arith, gone-phase t u long i l b g) in absurd z

  module _ (ct : Right t) (cu : Right u) (x : List ℕ) where
    by-phase : (i : ℕ) → i < rooms t → Counts (rec t i) (rec u i) → (phase t u i ≡ entry) ⊎ Alike (rec t i) (rec u i)
    by-phase i l = counts-phase t u long i l (ct.clauses.own i l).heading (cu.clauses.own i (rw long l)).heading

    -- ---- the entry is not there

    before : Agrees t u x → None t u x entry → NoneLast t u x → mended x ≡ t
    before a n o = left-mends t x (sound-keeps t ct) a.long (λ i l. go i l (d.each i l) (a.each i l)) ct.clauses.whole
      where
        same : (i : ℕ) → Alike (rec t i) (rec u i) → (rec x i ≡ rec t i) ⊎ (rec x i ≡ rec u i) → Left t x (rec t i) (rec x i)
        same i y (inl z) = ours (equal z)
        same i y (inr z) = ours (rw z y)

        at : (i : ℕ) → i < rooms t → (phase t u i ≡ entry) ⊎ Alike (rec t i) (rec u i) → (rec x i ≡ rec t i) ⊎ (rec x i ≡ rec u i)
            → Left t x (rec t i) (rec x i)
        at i l (inl p) y = ours (equal (n i l p))
        at i l (inr e) y = same i e y

        go : (i : ℕ) → i < rooms t → Turn t u d.at i → (rec x i ≡ rec t i) ⊎ (rec x i ≡ rec u i) → Left t x (rec t i) (rec x i)
        go i l (kept e) y = same i e y
        go i l (laid b g) (inl z) = ours (equal z)
        go i l (laid b g) (inr z) = litter b (laid (rw z g))
        go i l (counts q c) y = at i l (by-phase i l c) y
        go i l (gone b g) y = ours (equal (o i l (gone-phase t u long i l b g) (not-only (rec t i) (rec u i) (omega (arith, kind-blank (rec u i) b)))))

    -- ---- the entry is there

    after : Agrees t u x → All t u x first → All t u x entry → mended x ≡ u
    after a f n = left-mends u x (sound-keeps u cu) (a.long ∙ sym long) (λ i l. one i (rw long at l)) cu.clauses.whole
      where
        same : (i : ℕ) → Alike (rec t i) (rec u i) → (rec x i ≡ rec t i) ⊎ (rec x i ≡ rec u i) → Left u x (rec u i) (rec x i)
        same i y (inl z) = ours (rw z (alike-sym (rec t i) (rec u i) y))
        same i y (inr z) = ours (equal z)

        at : (i : ℕ) → i < rooms t → (phase t u i ≡ entry) ⊎ Alike (rec t i) (rec u i) → (rec x i ≡ rec t i) ⊎ (rec x i ≡ rec u i)
            → Left u x (rec u i) (rec x i)
        at i l (inl p) y = ours (equal (n i l p))
        at i l (inr e) y = same i e y

        go : (i : ℕ) → i < rooms t → Turn t u d.at i → (rec x i ≡ rec t i) ⊎ (rec x i ≡ rec u i) → Left u x (rec u i) (rec x i)
        go i l (kept e) y = same i e y
        go i l (laid b g) y = ours (equal (f i l (laid-phase t u long i l b g)))
        go i l (counts q c) y = at i l (by-phase i l c) y
        go i l (gone b g) (inl z) = litter b (laid (rw z g))
        go i l (gone b g) (inr z) = ours (equal z)

        one : (i : ℕ) → i < rooms t → Left u x (rec u i) (rec x i)
        one i l = go i l (d.each i l) (a.each i l)

    -- ---- in order

    -- one record is the only one of its phase
    none-by : (i : ℕ) → phase t u i ≡ entry → rec x i ≡ rec t i → None t u x entry
    none-by i p e j l q = rw (counts-there j q ∙ sym (counts-there i p)) e

    all-by : (i : ℕ) → phase t u i ≡ entry → rec x i ≡ rec u i → All t u x entry
    all-by i p e j l q = rw (counts-there j q ∙ sym (counts-there i p)) e

    pub not_there : InOrder t u x → (i : ℕ) → phase t u i ≡ entry → rec x i ≡ rec t i → mended x ≡ t
    not_there (in_first a n o) i p e = before a n o
    not_there (at_entry a f o) i p e = before a (none-by i p e) o
    not_there (in_last a f n) i p e = absurd (differs i p (sym (n i (in_table i p) p) ∙ e))

    pub there : InOrder t u x → (i : ℕ) → phase t u i ≡ entry → rec x i ≡ rec u i → mended x ≡ u
    there (in_first a n o) i p e = absurd (differs i p (sym e ∙ n i (in_table i p) p))
    there (at_entry a f o) i p e = after a f (all-by i p e)
    there (in_last a f n) i p e = after a f n

    pub either-one : InOrder t u x → (mended x ≡ t) ⊎ (mended x ≡ u)
    either-one (in_first a n o) = inl (before a n o)
    either-one (in_last a f n) = inr (after a f n)
    either-one (at_entry a f o) = by_cases (dec_lt d.at (rooms t)) (λ (l : d.at < rooms t). go (a.each d.at l)) past
      where
        go : (rec x d.at ≡ rec t d.at) ⊎ (rec x d.at ≡ rec u d.at) → (mended x ≡ t) ⊎ (mended x ≡ u)
        go (inl e) = inl (before a (λ i l p. rw (counts-there i p) e) o)
        go (inr e) = inr (after a f (λ i l p. rw (counts-there i p) e))

        past : ¬ (d.at < rooms t) → (mended x ≡ t) ⊎ (mended x ≡ u)
        past n = inl (before a (λ i l p. absurd (n (rw (← counts-there i p) l))) o)
