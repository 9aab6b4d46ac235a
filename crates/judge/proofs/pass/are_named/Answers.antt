-- Every record is asked: it is named if it is a heading, and says its counts where they are judged.
-- The chain asks them in ascending order, the definition the newest first.
use Rattle.std.proofs.Common.{rules, ◌≡◌, refl, sym, ◌∙◌, arith}
use Rattle.std.proofs.lemmas.Iterator.{YieldsList-from_range}
use Rattle.std.proofs.lemmas.Iterator.Search.{all_from_yields_List}
use borrow.Author.Tests.{tests}
use Rattle.paper.specs.Table.{rooms}
use Rattle.judge_laws.specs.Counts.{headed}
use Rattle.judge_laws.specs.Mask.{without}
use Rattle.judge_laws.proofs.Mask.{rooms-without}
use Rattle.judge_laws.proofs.Counts.{headed-below}
use Rattle.judge_laws.proofs.Ranges.{all_numbers}
use Rattle.judge.proofs.pass.are_named.Goals as goal

pub returns : goal.returns
returns c =
    let t = c.args.t.now in
    let u = without c.args.gone.now t in
    let n = rooms t in
    let p = headed c.args.counted u in
    let a = all_from_yields_List p _ _ c.all.result c.all.ensures.ran (YieldsList-from_range 0 n n refl (omega arith)) (λ x b q k. search (rules, tests)) in
    let q : n ≡ rooms u = sym (rooms-without c.args.gone.now t) in
    a ∙ all_numbers p n ∙ rw q (headed-below c.args.counted u)
