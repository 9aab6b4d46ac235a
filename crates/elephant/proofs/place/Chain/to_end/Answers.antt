-- A walk stops at a link of a small number: the line is short.
-- Its two ends are the cases of the paper's.
use mathlib.Core.Path.{◌≡◌, sym, ap, ◌∙◌}
use Rattle.std.specs.Prelude.{Ok, MatchResult}
use Rattle.std.specs.Result.{IsErrAnd}
use Rattle.std.proofs.Common.{rules, of_calls}
use Rattle.elephant.proofs.Ends.{stopped, ended-shown}
use Rattle.walk.specs.Ends.{end_meant}
use Rattle.elephant.proofs.Links.{end-near}
use Rattle.elephant.proofs.place.Chain.to_end.Goals as goal

pub map_err-requires : goal.map_err-requires
map_err-requires c =
    let a = c.args in
    λ stop is _ _ _ _ _. end-near a.line.now c.requires a.table.now a.user a.self.at a.self.begin stop (sym (ap end_meant is) ∙ c.to_end.ensures)

pub returns : goal.returns
returns c =
    let r = c.map_err.result in
    let q : MatchResult c.to_end.result (λ x. r ≡ Ok x) (λ s. IsErrAnd r (λ y. y ≡ stopped c.args.argument s)) = search (rules, of_calls) in
    ended-shown c.args.argument _ c.to_end.result r c.to_end.ensures q
