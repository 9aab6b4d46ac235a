-- The length is tested,
-- then every byte is of the class.
use native.Mathlib.Omega.{arith}
use Rattle.std.proofs.Common.{rules}
use Rattle.std.proofs.lemmas.Iterator.{YieldsList-from_slice}
use Rattle.std.proofs.lemmas.Iterator.Search.{all_from_yields_List}
use borrow.Author.Tests.{tests}
use Rattle.paper.specs.Name.{in_name}
use Rattle.words.proofs.Names.{link_tests}
use Rattle.words.proofs.name.is_link_name.Goals as goal

pub returns-then-matches : goal.returns-then-matches
returns-then-matches c =
    let a = all_from_yields_List in_name _ _ c.all.result c.all.ensures.ran (YieldsList-from_slice c.args.n.now cc) (λ x b q k. search (rules, tests)) in
    grind (arith, link_tests)
