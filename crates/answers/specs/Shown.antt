-- The place and the answer of the code, for the paper's.
use Rattle.std.specs.Prelude.{Bool, cond, ℕ, leb, Result, Ok, Err}
use Rattle.paper.specs.Answer as paper
use Rattle.paper.specs.Answer.{plain, granting}
use Rattle.paper.specs.Check as check
use Rattle.paper.specs.Check.{whole, Verdict, passed, refused}
use Rattle.answers.specs.Number.{number_of}
use Rattle.answers.specs.declared.Answer.{Answer}
use Rattle.answers.specs.declared.Place.{Place}
use Rattle.answers.specs.declared.Refusal.{Refusal}

-- the paper's place that a place of the code is, and back
abbrev pub place_meant : Place → check.Place
place_meant p = record { argument = p.argument; link = p.link }

abbrev pub place_shown : check.Place → Place
place_shown p = record { argument = p.argument; link = p.link }

-- the paper's refusal that a refusal of the code is
abbrev pub refusal_meant : Refusal → check.Refusal
refusal_meant f = record { number = number_of f.number; place = place_meant f.place }

-- what came of a call, with the paper's refusal in its place
abbrev pub told : {T : Type 0} → Result T Refusal → Result T check.Refusal
told (Ok x) = Ok x
told (Err f) = Err (refusal_meant f)

abbrev pub verdict_shown : Verdict → Result (Unit {0}) check.Refusal
verdict_shown passed = Ok tt
verdict_shown (refused f) = Err f

-- the seven numbers
abbrev pub shown : paper.Answer → Answer
shown a =
    record {
      number = a.number;
      place = a.place.argument;
      link = a.place.link;
      names = a.names;
      displaced = a.displaced;
      bytes = a.bytes;
      stores = a.stores;
    }

-- "Exactly the first k stores are made. If more were needed, the answer is 22": n are needed
abbrev pub stored : ℕ → ℕ → Bool → paper.Answer
stored n k displaced = cond (leb n k) (granting displaced 0 n) (plain 22 (whole 0) 0 k)

-- what a function came to, as an answer: a refusal's number and place, nothing done
abbrev pub answer_of : Result Answer Refusal → Answer
answer_of (Ok a) = a
answer_of (Err f) = shown (plain (number_of f.number) (place_meant f.place) 0 0)
