-- The refusals: the first sheet that is wrong, and a verdict, as the code says them.
use Rattle.std.specs.Prelude.{Bool, ◌≡◌, ℕ, ◌<◌, suc, Option, Some, None, Result, Ok, Err}
use Rattle.paper.specs.Check.{Verdict, passed, refused}
use Rattle.paper.specs.Scan.{Found, at, nowhere, first_below}
use Rattle.lamp.specs.declared.failure.Failure.{Failure}
use Rattle.lamp.specs.declared.failure.Failure.TheVariants as failure
use Rattle.lamp.specs.declared.refusal.Refusal.{Refusal}
use Rattle.lamp.specs.declared.refusal.Refusal.TheVariants as refusal

-- the number of a sheet that was found, from 1
abbrev pub numbered : Found → Option ℕ
numbered (at i) = Some (suc i)
numbered nowhere = None

unfoldable pub first_sheet : (ℕ → Bool) → ℕ → Option ℕ
first_sheet p n = numbered (first_below p n)

-- each answer to a number below n is what p gives
abbrev pub Tells : (ℕ → Bool → Type 0) → (ℕ → Bool) → ℕ → Type 0
Tells answers p n = (i : ℕ) (b : Bool) → i < n → answers i b → b ≡ p i

abbrev pub number_of : Refusal → ℕ
number_of refusal.Malformed = 1
number_of refusal.NameTwice = 2
number_of refusal.TextsShort = 3
number_of refusal.BackShort = 4

-- refused with this number where there is such a sheet
abbrev pub refused_at : ℕ → Option ℕ → Result (Unit {0}) Failure
refused_at number (Some sheet) = Err (failure.Refused sheet number)
refused_at number None = Ok tt

-- a verdict's number and sheet
abbrev pub admission_shown : Verdict → Result (Unit {0}) Failure
admission_shown passed = Ok tt
admission_shown (refused f) = Err (failure.Refused f.place.argument f.number)
