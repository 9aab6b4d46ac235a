-- The job where its first filing is refused at the entrance: 1 or 2 on a table that is not fit or not sound, with the index as without
-- it, and 26 with a list that is not the true index. And the jobs of which no sheet is asked. All leave the index as lent.
use mathlib.Core.Bool.{Bool, true, false, ◌&&◌, cond}
use mathlib.Core.List.{List, [], ◌∷◌}
use mathlib.Core.Path.{◌≡◌, refl}
use Prim.Native.Nat.{ℕ, ◌<◌}
use lib.Dec.{eqb}
use lib.ListN.{drop}
use Rattle.paper.specs.Layout.{boxed}
use Rattle.paper.specs.Table.{sized}
use Rattle.paper.specs.Check.{Refusal, Verdict, passed, refused, verdict}
use Rattle.paper.specs.Scan.{join_below}
use Rattle.paper.specs.Sound.{sound}
use Rattle.paper.specs.Index.{is_true}
use Rattle.job.specs.Sheet.{Sheet, count, sheet, job}
use Rattle.job.specs.Told.{beside}
use Rattle.job.specs.Refusal.{each, admission}
use Rattle.job.specs.Filing.{wrs_line, filing_by, filed, filing, kept_filed, kept_filing}
use Rattle.job.specs.Reading.{reading_by, reading, kept_reading}
use Rattle.job.specs.Lamp.{green, red, filed_ends, judged_ends, leaving, after_filing, admitted, lit, leaving_kept, kept_ran, lit_kept}
use Rattle.job_demands.proofs.Asked.{kept-unfit, kept-untrue}
use Rattle.job_demands.proofs.Turns.{left-some}

-- "A job without sheets is green": whatever the table and the index
pub no-sheets-kept : (t x texts back chain : List ℕ) (u k : ℕ)
    → lit_kept t x [] texts back chain u k ≡ record { lit = leaving (green 0) t back; index = x }
unfolding lit_kept admission each join_below verdict job filing_by reading_by
no-sheets-kept t x texts back chain u k = refl

-- neither 1 nor 2 is 0
some : (b : Bool) → eqb (cond b 2 1) 0 ≡ false
some true = refl
some false = refl

module _ (t x sheets texts back chain : List ℕ) (u k : ℕ) where
  -- a refused job
  pub refused-kept : (f : Refusal) → admission sheets texts back ≡ refused f
      → lit_kept t x sheets texts back chain u k ≡ record { lit = lit t sheets texts back chain u k; index = x }
  unfolding lit lit_kept
  refused-kept f q = rw q

  -- every job on a table that is not fit or not sound
  pub unfit-kept : sized t && sound boxed t ≡ false
      → lit_kept t x sheets texts back chain u k ≡ record { lit = lit t sheets texts back chain u k; index = x }
  unfolding lit lit_kept filing_by reading_by filed kept_filed
  unfit-kept n = go (admission sheets texts back)
    where
      run : (xs : List Sheet)
          → filed_ends leaving_kept back (λ s. kept_reading s chain back u 1 xs) (kept_filing (beside t x) chain u k 1 0 xs)
          ≡ record { lit = after_filing back (λ t₁. reading t₁ chain back u 1 xs) (filing t chain u k 1 0 xs); index = x }
      run [] = refl
      run (y ∷ ys) = let h = kept-unfit t x (wrs_line chain y.link) y.text [] u k n in rw (h.1, h.0, some (sized t))

      go : (v : Verdict) → judged_ends leaving_kept (beside t x) back (kept_ran (beside t x) sheets texts back chain u k) v
          ≡ record { lit = admitted t sheets texts back chain u k v; index = x }
      go (refused f) = refl
      go passed = run (job sheets texts)

  module _ (p : admission sheets texts back ≡ passed) (l : 0 < count sheets) where
    abbrev line : List ℕ
    line = wrs_line chain (sheet sheets texts 0).link

    abbrev text : List ℕ
    text = (sheet sheets texts 0).text

    first : job sheets texts ≡ sheet sheets texts 0 ∷ drop 1 (job sheets texts)
    first = left-some sheets texts 0 l

    -- .. is red at sheet 1, with 1 or 2, once it has a sheet and is not refused
    pub unfit-red : sized t && sound boxed t ≡ false → lit t sheets texts back chain u k ≡ leaving (red 1 1 (cond (sized t) 2 1) 0) t back
    unfolding lit filing_by filed
    unfit-red n = let h = kept-unfit t x line text [] u k n in rw (p, first, h.0, some (sized t))

    -- on a fit and sound table, with a list that is not its true index
    pub untrue-kept : sized t ≡ true → sound boxed t ≡ true → is_true t x ≡ false
        → lit_kept t x sheets texts back chain u k ≡ record { lit = leaving (red 1 1 26 0) t back; index = x }
    unfolding lit_kept filing_by kept_filed
    untrue-kept s e n = rw (p, first, kept-untrue t x line text [] u k s e n)
