-- What a call promises, for every input: the paper's answer, and each lent byte after it.
use Rattle.std.specs.Prelude.{List, ◌≡◌, ℕ}
use Rattle.paper.specs.Answer.{Outcome}
use Rattle.paper.specs.Index.{Kept}
use Rattle.answers.specs.Shown.{shown}
use Rattle.answers.specs.declared.Answer.{Answer}

-- the code's answer r, the table v and the reply w after it are those of an outcome
pub record Promised (o : Outcome) (r : Answer) (v w : List ℕ) : Type 0 where
  pub answer : r ≡ shown o.answer
  pub table : v ≡ o.table
  pub reply : w ≡ o.reply

-- .. and so is the index x
pub record Keeps (o : Kept) (r : Answer) (v x w : List ℕ) : Type 0 where
  pub promised : Promised o.outcome r v w
  pub index : x ≡ o.index
