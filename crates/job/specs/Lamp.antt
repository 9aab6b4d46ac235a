-- "Green exactly when every sheet was filed and read back ..; otherwise red with the number, from 1, of the first sheet that failed
-- and its filing or reading reply." What the lamp promises for every input: the answer, and table, index and buffer after it.
use Rattle.std.specs.Prelude.{List, ℕ}
use Rattle.paper.specs.Check.{Verdict, passed, refused}
use Rattle.job.specs.Sheet.{job}
use Rattle.job.specs.Told.{Indexed, beside}
use Rattle.job.specs.Refusal.{admission}
use Rattle.job.specs.Filing as F
use Rattle.job.specs.Filing.{FilingOf, Filing, filing, kept_filing}
use Rattle.job.specs.Reading as R
use Rattle.job.specs.Reading.{ReadingOf, Reading, reading, kept_reading}

-- light: 0 green, 1 red, 2 refused; the sheet, from 1, or 0; phase: 1 filing, 2 reading, or 0; the reply number of that sheet, or the
-- refusal's; all the stores that the job made
pub record Light : Type 0 where
  pub light : ℕ
  pub sheet : ℕ
  pub phase : ℕ
  pub number : ℕ
  pub stores : ℕ

abbrev pub green : ℕ → Light
green stores = record { light = 0; sheet = 0; phase = 0; number = 0; stores = stores }

abbrev pub red : (phase sheet number stores : ℕ) → Light
red phase sheet number stores = record { light = 1; sheet = sheet; phase = phase; number = number; stores = stores }

abbrev pub refusal : (sheet number : ℕ) → Light
refusal sheet number = record { light = 2; sheet = sheet; phase = 0; number = number; stores = 0 }

-- ---- for any state: `ends` puts together the light, the state and the buffer

-- after the reading: "Green exactly when every sheet was filed and read back"
abbrev pub read_ends : {S L : Type 0} → (Light → S → List ℕ → L) → ℕ → ReadingOf S → L
read_ends ends stores (R.whole s back) = ends (green stores) s back
read_ends ends stores (R.failed i number s back) = ends (red 2 i number stores) s back

-- after the filing: ".. and if none, reads each back"
abbrev pub filed_ends : {S L : Type 0} → (Light → S → List ℕ → L) → (back : List ℕ) → (S → ReadingOf S) → FilingOf S → L
filed_ends ends back read (F.whole s stores) = read_ends ends stores (read s)
filed_ends ends back read (F.failed i number s stores) = ends (red 1 i number stores) s back

-- "before any store"
abbrev pub judged_ends : {S L : Type 0} → (Light → S → List ℕ → L) → S → (back : List ℕ) → L → Verdict → L
judged_ends ends s back run (refused f) = ends (refusal f.place.argument f.number) s back
judged_ends ends s back run passed = run

-- ---- on a table alone

pub record Lit : Type 0 where
  pub answer : Light
  pub table : List ℕ
  pub back : List ℕ

abbrev pub leaving : Light → (table back : List ℕ) → Lit
leaving a t back = record { answer = a; table = t; back = back }

abbrev pub after_reading : ℕ → Reading → Lit
after_reading = read_ends leaving

abbrev pub after_filing : (back : List ℕ) → (List ℕ → Reading) → Filing → Lit
after_filing = filed_ends leaving

-- a job that is not refused: filed, and read back
abbrev pub ran : (t sheets texts back chain : List ℕ) (u k : ℕ) → Lit
ran t sheets texts back chain u k =
    after_filing back (λ t₁. reading t₁ chain back u 1 (job sheets texts)) (filing t chain u k 1 0 (job sheets texts))

abbrev pub admitted : (t sheets texts back chain : List ℕ) (u k : ℕ) → Verdict → Lit
admitted t sheets texts back chain u k = judged_ends leaving t back (ran t sheets texts back chain u k)

-- the lamp on a table alone
unfoldable pub lit : (table sheets texts back chain : List ℕ) (user stop : ℕ) → Lit
lit t sheets texts back chain u k = admitted t sheets texts back chain u k (admission sheets texts back)

-- ---- on a table with its index

-- what a job leaves, and the index after it
pub record LitKept : Type 0 where
  pub lit : Lit
  pub index : List ℕ

abbrev pub leaving_kept : Light → Indexed → (back : List ℕ) → LitKept
leaving_kept a s back = record { lit = leaving a s.table back; index = s.index }

abbrev pub kept_ran : (s : Indexed) (sheets texts back chain : List ℕ) (u k : ℕ) → LitKept
kept_ran s sheets texts back chain u k =
    filed_ends leaving_kept back (λ s₁. kept_reading s₁ chain back u 1 (job sheets texts))
    (kept_filing s chain u k 1 0 (job sheets texts))

-- the promise of the lamp
unfoldable pub lit_kept : (table index sheets texts back chain : List ℕ) (user stop : ℕ) → LitKept
lit_kept t x sheets texts back chain u k =
    judged_ends leaving_kept (beside t x) back (kept_ran (beside t x) sheets texts back chain u k) (admission sheets texts back)
