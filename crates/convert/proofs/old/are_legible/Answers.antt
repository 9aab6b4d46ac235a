-- The chain tests the records in ascending order, each as it is legible or not.
-- So it tests what the definition does.
use Rattle.std.proofs.Common.{rules, refl, ◌∙◌, arith}
use Rattle.std.proofs.lemmas.Iterator.{YieldsList-from_range}
use Rattle.std.proofs.lemmas.Iterator.Search.{all_from_yields_List}
use borrow.Author.Tests.{tests}
use Rattle.paper.specs.Layout.{old}
use Rattle.convert.specs.Looked.{legible_at, all_legible}
use Rattle.judge_laws.proofs.Ranges.{all_numbers}
use Rattle.convert.proofs.old.are_legible.Goals as goal

pub returns : goal.returns
unfolding all_legible
returns c =
    let t = c.args.table.now in
    let n = c.rooms.result.0 in
    let p = legible_at old t in
    let a = all_from_yields_List p _ _ c.all.result c.all.ensures.ran (YieldsList-from_range 0 n n refl (omega arith)) (λ x b q k. search (rules, tests)) in
    a ∙ all_numbers p n ∙ rw c.rooms.ensures
