-- The code's answers to a run over the sheets, for the job's; and one request of a run.
use Rattle.std.specs.Prelude.{List, ◌++◌, ◌≡◌, ℕ, ◌≤◌, length, take, Result, Ok, Err}
use Rattle.paper.specs.Index.{Kept}
use Rattle.answers.specs.Shown.{shown}
use Rattle.answers.specs.declared.Answer.{Answer}
use Rattle.job.specs.Sheet.{Sheet}
use Rattle.job.specs.Told.{Indexed, beside}
use Rattle.job.specs.Filing as F
use Rattle.job.specs.Reading as R
use Rattle.lamp.specs.declared.failure.Failure.{Failure}
use Rattle.lamp.specs.declared.failure.Failure.TheVariants as failure

-- a sheet of this link and text
abbrev pub sheet_of : (link text : List ℕ) → Sheet
sheet_of link text = record { link = link; text = text }

-- a request that writes no reply, with k stores left: the code's answer r, the table v and the index x after it are those of an outcome
pub record Asked (o : Kept) (k : ℕ) (r : Answer) (v x : List ℕ) : Type 0 where
  pub answer : r ≡ shown o.outcome.answer
  pub table : v ≡ o.outcome.table
  pub index : x ≡ o.index
  pub most : r.stores ≤ k

-- how the filing ended: all the stores, or the failure; and the table and the index after it
abbrev pub filing_shown : F.FilingOf Indexed → Result ℕ Failure
filing_shown (F.whole s stores) = Ok stores
filing_shown (F.failed sheet number s stores) = Err (failure.Unfiled sheet number stores)

abbrev pub filed_state : F.FilingOf Indexed → Indexed
filed_state (F.whole s stores) = s
filed_state (F.failed sheet number s stores) = s

pub record Filed (o : F.FilingOf Indexed) (r : Result ℕ Failure) (v x : List ℕ) : Type 0 where
  pub result : r ≡ filing_shown o
  pub state : beside v x ≡ filed_state o

-- how the reading ended, after so many stores: the failure, if any; and the table, the index and the buffer after it
abbrev pub reading_shown : ℕ → R.ReadingOf Indexed → Result (Unit {0}) Failure
reading_shown stores (R.whole s back) = Ok tt
reading_shown stores (R.failed sheet number s back) = Err (failure.Unread sheet number stores)

abbrev pub read_state : R.ReadingOf Indexed → Indexed
read_state (R.whole s back) = s
read_state (R.failed sheet number s back) = s

abbrev pub read_buffer : R.ReadingOf Indexed → List ℕ
read_buffer (R.whole s back) = back
read_buffer (R.failed sheet number s back) = back

pub record WasRead (o : R.ReadingOf Indexed) (stores : ℕ) (r : Result (Unit {0}) Failure) (v x w : List ℕ) : Type 0 where
  pub result : r ≡ reading_shown stores o
  pub state : beside v x ≡ read_state o
  pub back : w ≡ read_buffer o

-- bytes s put after the first n of a line l: the line m is then its first r bytes
pub record Grown (l : List ℕ) (n : ℕ) (s m : List ℕ) (r : ℕ) : Type 0 where
  pub bytes : take r m ≡ take (length l) (take n l ++ s)
  pub size : length m ≡ length l
  pub most : r ≤ length l
