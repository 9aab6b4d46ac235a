-- A refusal's place fits, since no line that is counted has more than eight arguments, and its link, since no line that is not too long has
-- more than 257 names. What was read is the reader's, case by case.
use mathlib.Core.Path.{◌≡◌, sym, ap, ◌∙◌}
use Rattle.std.specs.Prelude.{Ok, MatchResult}
use Rattle.std.specs.Result.{IsErrAnd}
use Rattle.std.proofs.Common.{rules, of_calls}
use Rattle.reader.specs.Asked.{told}
use Rattle.elephant.specs.Entrance.{unread_by}
use Rattle.elephant.proofs.Places.{place-near, link_near, read-shown}
use Rattle.elephant.proofs.read.Goals as goal

pub map_err-requires : goal.map_err-requires
map_err-requires c =
    let line = c.args.line.now in
    λ f is. (place-near line f (sym (ap told is) ∙ c.read_line.ensures), link_near line f (sym (ap told is) ∙ c.read_line.ensures))

pub returns : goal.returns
returns c =
    let r = c.map_err.result in
    let q : MatchResult c.read_line.result (λ x. r ≡ Ok x) (λ f. IsErrAnd r (λ y. y ≡ unread_by f)) = search (rules, of_calls) in
    read-shown _ c.read_line.result r c.read_line.ensures q
