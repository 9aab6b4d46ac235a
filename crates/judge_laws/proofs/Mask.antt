-- A table without the records that go: each record is blank or as it was, whatever its kind.
-- So what a mark decides is read from the mark, and a record of any kind but free is the table's own.
use mathlib.Core.Bool.{Bool, true, false, ◌&&◌}
use mathlib.Core.List.{List, []}
use mathlib.Core.Logic.{◌⊎◌, inl, inr, by_cases}
use mathlib.Core.Path.{◌≡◌, refl, sym, ◌∙◌}
use Prim.Native.Nat.{ℕ, zero, suc, ◌<◌, ◌≤◌}
use native.Mathlib.Omega.{arith}
use native.Mathlib.Decide.{dec_lt}
use lib.ListN.{length, get_or, replicate}
use Rattle.judge_laws.specs.Mask.{stays, goes, without}
use Rattle.judge_laws.specs.Shapes.{right_at}
use Rattle.paper.specs.Record.{is_kind, simple, directory, zeros, blank}
use Rattle.paper.specs.Scan.{all_below}
use Rattle.paper.specs.Store.{run}
use Rattle.paper.specs.Table.{sized, rooms, rec}
use Rattle.demands.proofs.Mending.Wipe.{rec-wiped, clears-none}
use Rattle.laws.proofs.Lay.{Whole, rec-past}
use Rattle.laws.proofs.Runs.{length_run}
use Rattle.laws.proofs.Tests.{truth, and_right, and-no-right}

-- where no record is marked, none goes
without-none : (gone t : List ℕ) → ((i : ℕ) → i < rooms t → get_or gone i 0 ≡ 0) → without gone t ≡ t
unfolding without run
without-none gone t h = rw (clears-none (goes gone) (rooms t) (λ i l. rw (h i l)))

none-marked : (n i : ℕ) → get_or {A = ℕ} (replicate n 0) i 0 ≡ 0
none-marked zero i = refl
none-marked (suc n) zero = refl
none-marked (suc n) (suc i) = none-marked n i

pub without-zeros : (n : ℕ) (t : List ℕ) → without (replicate n 0) t ≡ t
without-zeros n t = without-none (replicate n 0) t (λ i l. none-marked n i)

module _ (gone t : List ℕ) where
  pub length_without : length (without gone t) ≡ length t
  unfolding without
  length_without = length_run t _

  pub rooms-without : rooms (without gone t) ≡ rooms t
  rooms-without = rw length_without

  pub sized-without : sized (without gone t) ≡ sized t
  sized-without = rw length_without

  module _ (i : ℕ) (l : i < rooms t) where
    -- a record that goes is blank, and every other is as it was
    rec-gone : stays gone i ≡ false → rec (without gone t) i ≡ blank
    unfolding without
    rec-gone s = rec-wiped t (goes gone) i l ∙ rw s

    rec-here : stays gone i ≡ true → rec (without gone t) i ≡ rec t i
    unfolding without
    rec-here s = rec-wiped t (goes gone) i l ∙ rw s

    -- a test that no free record passes is passed where it was and the record has no mark
    masked-here : (f : List ℕ → Bool) → f blank ≡ false → f (rec (without gone t) i) ≡ (f (rec t i) && stays gone i)
    masked-here f b = go (truth (stays gone i))
      where
        yes : (a : Bool) → a ≡ (a && true)
        yes true = refl
        yes false = refl

        go : (stays gone i ≡ true) ⊎ (stays gone i ≡ false) → f (rec (without gone t) i) ≡ (f (rec t i) && stays gone i)
        go (inl s) = rw (rec-here s, s) (yes (f (rec t i)))
        go (inr s) = rw (rec-gone s, b, s) (sym (and-no-right (f (rec t i)) false refl))

    pub entry-without : is_kind 2 (rec (without gone t) i) ≡ (is_kind 2 (rec t i) && stays gone i)
    unfolding blank
    entry-without = masked-here (is_kind 2) refl

    -- an entry is as it was
    pub rec-entry : is_kind 2 (rec (without gone t) i) ≡ true → rec (without gone t) i ≡ rec t i
    rec-entry k = rec-here (and_right (is_kind 2 (rec t i)) _ (sym entry-without ∙ k))

    -- a record that goes is right
    pub right-gone : stays gone i ≡ false → right_at (without gone t) i ≡ true
    unfolding right_at zeros all_below blank
    right-gone s = rw (rec-gone s)

  -- so is what two entries show of each other
  pub entries-without : (f : List ℕ → List ℕ → Bool) (i k : ℕ) → i < rooms t → k < rooms t → is_kind 2 (rec (without gone t) i) ≡ true
      → is_kind 2 (rec (without gone t) k) ≡ true → f (rec (without gone t) i) (rec (without gone t) k) ≡ f (rec t i) (rec t k)
  entries-without f i k l m a b = rw (rec-entry i l a, rec-entry k m b)

  module _ (w : Whole t) where
    pub whole-without : Whole (without gone t)
    whole-without = rw length_without w

    pub rec-none : (i : ℕ) → rooms t ≤ i → rec (without gone t) i ≡ []
    rec-none i l = rec-past (without gone t) i whole-without (rw rooms-without l)

    pub rec-stays : (i : ℕ) → stays gone i ≡ true → rec (without gone t) i ≡ rec t i
    rec-stays i s =
        by_cases (dec_lt i (rooms t)) (λ (l : i < rooms t). rec-here i l s)
        (λ (l : ¬ (i < rooms t)). rec-none i (omega arith) ∙ sym (rec-past t i w (omega arith)))

    masked : (f : List ℕ → Bool) → f blank ≡ false → f [] ≡ false → (i : ℕ) → f (rec (without gone t) i) ≡ (f (rec t i) && stays gone i)
    masked f b n i =
        by_cases (dec_lt i (rooms t)) (λ (l : i < rooms t). masked-here i l f b)
        (λ (l : ¬ (i < rooms t)). rw (rec-past t i w (omega arith), rec-none i (omega arith), n))

    pub heading-without : (i : ℕ) → is_kind 1 (rec (without gone t) i) ≡ (is_kind 1 (rec t i) && stays gone i)
    unfolding blank
    heading-without = masked (is_kind 1) refl refl

    pub text-without : (i : ℕ) → is_kind 3 (rec (without gone t) i) ≡ (is_kind 3 (rec t i) && stays gone i)
    unfolding blank
    text-without = masked (is_kind 3) refl refl

    pub directory-without : (i : ℕ) → directory (rec (without gone t) i) ≡ (directory (rec t i) && stays gone i)
    unfolding blank
    directory-without = masked directory refl refl

    pub simple-without : (i : ℕ) → simple (rec (without gone t) i) ≡ (simple (rec t i) && stays gone i)
    unfolding blank
    simple-without = masked simple refl refl

    -- .. and then the record is as it was
    pub simple-kept : (i : ℕ) → simple (rec (without gone t) i) ≡ true → rec (without gone t) i ≡ rec t i
    simple-kept i e = rec-stays i (and_right (simple (rec t i)) _ (sym (simple-without i) ∙ e))
