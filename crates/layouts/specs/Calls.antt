-- Any sequence of calls, by a layout: requests of any users and mends, each cut or whole, with the table after it and all that it showed.
use Rattle.std.specs.Prelude.{List, [], ◌∷◌, ℕ}
use Rattle.paper.specs.Layout.{Layout}
use Rattle.paper.specs.Answer.{Answer, Outcome, requested, mending}

pub data Call : Type 0 where
  asks : (line text reply : List ℕ) (user stop : ℕ) → Call
  mends : (stop : ℕ) → Call

-- one call's answer, the table after and the reply after
abbrev pub called : Layout → List ℕ → Call → Outcome
called L t (asks line text reply user stop) = requested L t line text reply user stop
called L t (mends stop) = mending L t stop

-- the table after all of them
unfoldable pub after : Layout → List ℕ → List Call → List ℕ
after L t [] = t
after L t (c ∷ cs) = after L (called L t c).table cs

-- what they show to who makes them: each answer and each reply
pub record Shown : Type 0 where
  pub answer : Answer
  pub reply : List ℕ

unfoldable pub shown : Layout → List ℕ → List Call → List Shown
shown L t [] = []
shown L t (c ∷ cs) = record { answer = (called L t c).answer; reply = (called L t c).reply } ∷ shown L (called L t c).table cs
