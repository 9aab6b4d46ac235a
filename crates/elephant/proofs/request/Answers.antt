-- What refuses is an answer, and so is what is granted.
-- The promise is the one of `answered`.
use mathlib.Core.Path.{◌≡◌}
use Rattle.std.specs.Prelude.{Result, Ok, Err, MatchResult}
use Rattle.answers.specs.Shown.{answer_of}
use Rattle.answers.specs.declared.Answer.{Answer}
use Rattle.answers.specs.declared.Refusal.{Refusal}
use Rattle.std.proofs.Common.{rules, of_calls}
use Rattle.elephant.proofs.request.Goals as goal

answers : (r : Result Answer Refusal) (a : Answer) → MatchResult r (λ x. a ≡ x) (λ f. a ≡ answer_of (Err f)) → a ≡ answer_of r
answers (Ok x) a e = e
answers (Err f) a e = e

pub returns : goal.returns
returns c =
    let a = c.unwrap_or_else.result in
    let q : MatchResult c.answered.result (λ x. a ≡ x) (λ f. a ≡ answer_of (Err f)) = search (rules, of_calls) in
    rw (answers c.answered.result a q) c.answered.ensures
