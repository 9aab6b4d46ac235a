-- The first sheet that is wrong is found by going over them in order; the refusals are tried one after another, so the first that some
-- sheet has decides. A text is missing where the texts that are left are shorter than it.
use mathlib.Core.Bool.{Bool, true, false}
use mathlib.Core.List.{List, [], ◌++◌, append_assoc, append-nil}
use mathlib.Core.Logic.{◌≢◌, by_cases}
use mathlib.Core.Path.{◌≡◌, refl}
use Prim.Native.Nat.{ℕ, zero, suc, ◌+◌, ◌-◌, ◌≤◌, ◌<◌}
use native.Mathlib.Omega.{arith}
use native.Mathlib.Decide.{ℕ_discrete}
use native.Mathlib.Numerals.{add-one}
use lib.ListN.{length}
use borrow.Author.Tests.{lt-ltb, le-ltb, ltb-false}
use Rattle.paper.specs.Check.{Check, Verdict, passed, refused, verdict}
use Rattle.paper.specs.Scan.{Found, at, nowhere, any_below, first_below}
use Rattle.paper.specs.Table.{rec}
use Rattle.laws.proofs.Scans.{first-here, first-none, first-at, first-nowhere, any_false}
use Rattle.scans.proofs.Turns.{any-still}
use Rattle.job.specs.Sheet.{count, length_of, start}
use Rattle.job.specs.Told.{beside}
use Rattle.job.specs.Refusal.{malformed, twice, missing, too_long, each, admission}
use Rattle.job.specs.Lamp.{judged_ends, LitKept, leaving_kept, kept_ran, lit_kept}
use Rattle.job_demands.proofs.Admitting.{each_none, each_first, Admitted, admits, refuses}
use Rattle.job_demands.proofs.Admitting as admitting
use Rattle.lamp.specs.Refused.{numbered, first_sheet, refused_at, admission_shown}
use Rattle.lamp.specs.Shown.{failure_shown, Lighted}
use Rattle.lamp.specs.declared.failure.Failure.{Failure}
use Rattle.lamp.specs.declared.failure.Failure.TheVariants.{Refused}
use Rattle.std.specs.Prelude.{Some, None, Result, Ok, Err}

module _ (p : ℕ → Bool) where
  pub found_here : (n i : ℕ) → i < n → p i ≡ true → any_below p i ≡ false → Some (i + 1) ≡ first_sheet p n
  unfolding first_sheet
  found_here n i l e f = rw (first-here p n i l e f, add-one i)

  pub found_none : (n : ℕ) → any_below p n ≡ false → None ≡ first_sheet p n
  unfolding first_sheet
  found_none n e = rw (first-none p n e)

-- the first of two that is a failure
abbrev pub and_also : Result (Unit {0}) Failure → Result (Unit {0}) Failure → Result (Unit {0}) Failure
and_also (Err f) r = Err f
and_also (Ok _) r = r

-- the checks of one refusal over n sheets, and others after it: the first sheet found refuses, and where none was the others decide
first-refuses : (number : ℕ) (p : ℕ → Bool) (n : ℕ) (cs : List Check)
    → admission_shown (verdict (each number p n ++ cs)) ≡ and_also (refused_at number (first_sheet p n)) (admission_shown (verdict cs))
unfolding first_sheet
first-refuses number p n cs = go (first_below p n) refl
  where
    go : (f : Found) → first_below p n ≡ f
        → admission_shown (verdict (each number p n ++ cs)) ≡ and_also (refused_at number (numbered (first_below p n))) (admission_shown (verdict cs))
    go (at i) q = rw (each_first number p n i cs (first-at p n i q), q)
    go nowhere q = rw (each_none number p n cs (first-nowhere p n q), q)

last-refuses : (r : Result (Unit {0}) Failure) → and_also r (Ok tt) ≡ r
last-refuses (Err f) = refl
last-refuses (Ok u) = refl

-- the four in order
pub in-order : (sheets texts back : List ℕ) → admission_shown (admission sheets texts back) ≡
    and_also (refused_at 1 (first_sheet (malformed sheets) (count sheets)))
    (and_also (refused_at 2 (first_sheet (twice sheets) (count sheets)))
    (and_also (refused_at 3 (first_sheet (missing sheets texts) (count sheets)))
    (refused_at 4 (first_sheet (too_long sheets back) (count sheets)))))
unfolding admission verdict
in-order sheets texts back =
    let n = count sheets in
    let d = each 4 (too_long sheets back) n ++ [] in
    let c = each 3 (missing sheets texts) n ++ d in
    let b = each 2 (twice sheets) n ++ c in
    let whole : admission sheets texts back ≡ verdict (each 1 (malformed sheets) n ++ b) = simp (append_assoc, append-nil) in
    rw (
      whole,
      first-refuses 1 (malformed sheets) n b,
      first-refuses 2 (twice sheets) n c,
      first-refuses 3 (missing sheets texts) n d,
      first-refuses 4 (too_long sheets back) n [],
      last-refuses (refused_at 4 (first_sheet (too_long sheets back) n)),
    )

-- the texts that are left where those of the first i sheets are taken
pub start-more : (sheets : List ℕ) (i : ℕ) → start sheets (i + 1) ≡ start sheets i + length_of (rec sheets i)
unfolding start
start-more sheets i = rw (add-one i)

start-rises : (sheets : List ℕ) (i n : ℕ) → i ≤ n → start sheets i ≤ start sheets n
unfolding start
start-rises sheets i zero l = let z : i ≡ 0 = omega arith in rw z (omega arith)
start-rises sheets i (suc n) l =
    by_cases (ℕ_discrete i (suc n))
    (λ (q : i ≡ suc n). rw q (omega arith))
    (λ (q : i ≢ suc n). let r = start-rises sheets i n (omega arith) in omega arith)

-- sheet i's text ends where the next begins, and no later than the last
pub start-within : (sheets : List ℕ) (i n : ℕ) → i < n → start sheets i + length_of (rec sheets i) ≤ start sheets n
start-within sheets i n l =
    let r = start-rises sheets (i + 1) n (omega arith) in
    omega (arith, start-more sheets i)

-- the bytes that are left of the texts where those of the first i sheets are taken
pub record Left (sheets texts : List ℕ) (i left : ℕ) : Type 0 where
  pub sum : start sheets i + left ≡ length texts
  pub none : any_below (missing sheets texts) i ≡ false

module _ (sheets texts : List ℕ) where
  pub left-all : Left sheets texts 0 (length texts)
  unfolding start any_below
  left-all = record { sum = omega arith; none = refl }

  pub left-short : (i left : ℕ) → Left sheets texts i left → left < length_of (rec sheets i) → missing sheets texts i ≡ true
  unfolding start
  left-short i left l h = lt-ltb (length texts) (start sheets i + length_of (rec sheets i)) (omega (arith, l.sum))

  pub left-more : (i left : ℕ) → Left sheets texts i left → length_of (rec sheets i) ≤ left
      → Left sheets texts (i + 1) (left - length_of (rec sheets i))
  unfolding start
  left-more i left l h =
      let e : missing sheets texts i ≡ false = le-ltb (length texts) (start sheets i + length_of (rec sheets i)) (omega (arith, l.sum)) in
      record {
        sum = rw (start-more sheets i) (omega (arith, l.sum));
        none = any-still (missing sheets texts) i e l.none;
      }

-- ---- the promise

module _ (t x sheets texts back chain : List ℕ) (u k : ℕ) where
  abbrev judged : Verdict → LitKept
  judged = judged_ends leaving_kept (beside t x) back (kept_ran (beside t x) sheets texts back chain u k)

  pub lit_refused : (f : Failure) → Err f ≡ admission_shown (admission sheets texts back)
      → Lighted (lit_kept t x sheets texts back chain u k) (failure_shown f) t x back
  unfolding lit_kept
  lit_refused f = go (admission sheets texts back)
    where
      go : (v : Verdict) → Err f ≡ admission_shown v → Lighted (judged v) (failure_shown f) t x back
      go passed e = cc
      go (refused g) e =
          let q : f ≡ Refused g.place.argument g.number = cc in
          rw q (record { answer = refl; table = refl; index = refl; back = refl })

  pub lit-passed : Ok tt ≡ admission_shown (admission sheets texts back)
      → lit_kept t x sheets texts back chain u k ≡ kept_ran (beside t x) sheets texts back chain u k
  unfolding lit_kept
  lit-passed = go (admission sheets texts back)
    where
      go : (v : Verdict) → Ok tt ≡ admission_shown v → judged v ≡ kept_ran (beside t x) sheets texts back chain u k
      go passed e = refl
      go (refused f) e = cc

-- a job that passes has all its texts
pub texts-there : (sheets texts back : List ℕ) → Ok tt ≡ admission_shown (admission sheets texts back) → start sheets (count sheets) ≤ length texts
texts-there sheets texts back e = go (admitting.admitted sheets texts back)
  where
    all : (n : ℕ) → any_below (missing sheets texts) n ≡ false → start sheets n ≤ length texts
    all zero q = unfold start in omega arith
    all (suc n) q = ltb-false (length texts) (start sheets (suc n)) (any_false (missing sheets texts) (suc n) n (omega arith) q)

    go : Admitted sheets texts back (admission sheets texts back) → start sheets (count sheets) ≤ length texts
    go (admits h q) = all (count sheets) (h 2)
    go (refuses m i f q) = cc (rw q at e)
