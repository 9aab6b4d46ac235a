-- What the answers of this crate stand for.
use Rattle.std.specs.Prelude.{cond, List, ℕ, zero, suc, Option, Some, None, Result, Ok, Err}
use Rattle.paper.specs.Name.{user_name, user_number}
use Rattle.paper.specs.Octal as paper
use Rattle.paper.specs.Octal.{in_octal}
use Rattle.paper.specs.Request as asked
use Rattle.paper.specs.Request.{own, take_of, give_to}
use Rattle.records.specs.Part.{shown_part}
use Rattle.words.specs.Place.{joined, next_name, cut}
use Rattle.words.specs.declared.begin.Begin.{Begin}
use Rattle.words.specs.declared.begin.Begin.TheVariants.{Own, Take, Give}
use Rattle.words.specs.declared.octal.NoNumber.{NoNumber}

-- where the name after the one at p starts, if a colon joins one
abbrev pub next_at : List ℕ → ℕ → Option ℕ
next_at line p = cond (joined line p) (Some (next_name line p)) None

-- the user that the first name of the word at p is, if it is one
abbrev pub user_at : List ℕ → ℕ → Option ℕ
user_at line p = cond (user_name (cut line p)) (Some (user_number (cut line p))) None

-- where a chain starts, for the paper's, and back
abbrev pub begin_shown : asked.Begin → Begin
begin_shown own = Own
begin_shown (take_of user) = Take user
begin_shown (give_to user) = Give user

abbrev pub begin_meant : Begin → asked.Begin
begin_meant Own = own
begin_meant (Take user) = take_of user
begin_meant (Give user) = give_to user

-- the number of a link, which the paper has as 0 where there is none
abbrev pub some_link : ℕ → Option ℕ
some_link zero = None
some_link (suc k) = Some (suc k)

-- a number of RDS, for the paper's
abbrev pub shown_octal : paper.Octal → Result (Option ℕ) NoNumber
shown_octal (paper.number p) = Ok (shown_part p)
shown_octal paper.no_number = Err (record {})
