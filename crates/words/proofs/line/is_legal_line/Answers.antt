-- The length is tested,
-- then every byte is of the class.
use native.Mathlib.Omega.{arith}
use Rattle.std.proofs.Common.{rules}
use Rattle.std.proofs.lemmas.Iterator.{YieldsList-from_slice}
use Rattle.std.proofs.lemmas.Iterator.Search.{all_from_yields_List}
use borrow.Author.Tests.{tests}
use Rattle.paper.specs.Line.{in_line}
use Rattle.words.proofs.Names.{line_tests}
use Rattle.words.proofs.line.is_legal_line.Goals as goal

pub returns-then-line-le-MOST : goal.returns-then-line-le-MOST
returns-then-line-le-MOST c =
    let a = all_from_yields_List in_line _ _ c.all.result c.all.ensures.ran (YieldsList-from_slice c.args.line.now cc) (λ x b q k. search (rules, tests)) in
    grind (arith, line_tests)
