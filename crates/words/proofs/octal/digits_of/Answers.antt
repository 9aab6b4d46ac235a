-- The length is tested, then every byte is an octal digit;
-- the number is what they make.
use mathlib.Core.Path.{sym, ◌∙◌}
use native.Mathlib.Omega.{arith}
use Rattle.std.proofs.Common.{rules}
use Rattle.std.proofs.lemmas.Iterator.{YieldsList-from_slice}
use Rattle.std.proofs.lemmas.Iterator.Search.{all_from_yields_List}
use borrow.Author.Tests.{tests}
use Rattle.paper.specs.Octal.{in_octal}
use Rattle.words.proofs.Octals.{digits_tests, octal-six-digits}
use Rattle.words.proofs.octal.digits_of.Goals as goal

pub number_of-requires : goal.number_of-requires
number_of-requires c =
    let a = all_from_yields_List in_octal _ _ c.all.result c.all.ensures.ran (YieldsList-from_slice c.args.n.now cc) (λ x b q k. search (rules, tests)) in
    octal-six-digits c.args.n.now (sym a ∙ c.if-all.true) (omega arith)

pub returns-in-1-to-6 : goal.returns-in-1-to-6
returns-in-1-to-6 c =
    let a = all_from_yields_List in_octal _ _ c.all.result c.all.ensures.ran (YieldsList-from_slice c.args.n.now cc) (λ x b q k. search (rules, tests)) in
    grind (arith, digits_tests)

pub returns-in_default-2 : goal.returns-in_default-2
returns-in_default-2 c =
    let a = all_from_yields_List in_octal _ _ c.all.result c.all.ensures.ran (YieldsList-from_slice c.args.n.now cc) (λ x b q k. search (rules, tests)) in
    grind (arith, digits_tests)
