-- What the lamp promises: the answer, and table, index and read-back buffer after it, of `lit_kept`, for every input.
use Rattle.std.specs.Prelude.{cond, List, ◌≡◌, ℕ, ltb, Result, Ok, Err}
use Rattle.job.specs.Lamp as job
use Rattle.job.specs.Lamp.{LitKept}
use Rattle.lamp.specs.declared.Light.{Light}
use Rattle.lamp.specs.declared.failure.Failure.{Failure}
use Rattle.lamp.specs.declared.failure.Failure.TheVariants as failure

-- a sheet's number in four bytes: 4,294,967,295 stands for every later sheet too
unfoldable pub sheet_shown : ℕ → ℕ
sheet_shown n = cond (ltb n 4294967295) n 4294967295

-- the five numbers
abbrev pub shown : job.Light → Light
shown a =
    record { light = a.light; sheet = sheet_shown a.sheet; phase = a.phase; number = a.number; stores = a.stores }

-- a failure's five numbers
abbrev pub failure_shown : Failure → Light
failure_shown (failure.Refused sheet number) = shown (job.refusal sheet number)
failure_shown (failure.Unfiled sheet number stores) = shown (job.red 1 sheet number stores)
failure_shown (failure.Unread sheet number stores) = shown (job.red 2 sheet number stores)

-- .. those of all the stores of a job that did not fail, or of the failure
abbrev pub light_shown : Result ℕ Failure → Light
light_shown (Ok stores) = shown (job.green stores)
light_shown (Err f) = failure_shown f

-- the code's answer r, the table v, the index x and the buffer w after it are those that the job leaves
pub record Lighted (o : LitKept) (r : Light) (v x w : List ℕ) : Type 0 where
  pub answer : r ≡ shown o.lit.answer
  pub table : v ≡ o.lit.table
  pub index : x ≡ o.index
  pub back : w ≡ o.lit.back
