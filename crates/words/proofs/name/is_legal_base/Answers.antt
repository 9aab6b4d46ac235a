-- A name of two bytes is one of four by its bytes;
-- any other is of its class whole.
use native.Mathlib.Omega.{arith}
use Rattle.std.proofs.Common.{rules}
use Rattle.std.proofs.lemmas.Iterator.{YieldsList-from_slice}
use Rattle.std.proofs.lemmas.Iterator.Search.{all_from_yields_List}
use borrow.Author.Tests.{tests}
use Rattle.paper.specs.Name.{in_base}
use Rattle.words.proofs.Names.{base-two, base-other, pointed_byte}
use Rattle.words.proofs.name.is_legal_base.Goals as goal

pub returns-then-matches : goal.returns-then-matches
returns-then-matches c = grind (arith, base-two, pointed_byte)

pub returns-then-n-ge3 : goal.returns-then-n-ge3
returns-then-n-ge3 c =
    let a = all_from_yields_List in_base _ _ c.all.result c.all.ensures.ran (YieldsList-from_slice c.args.n.now cc) (λ x b q k. search (rules, tests)) in
    grind (arith, base-other)

pub returns-else-n-ge3 : goal.returns-else-n-ge3
returns-else-n-ge3 c = grind (arith, base-two, base-other, pointed_byte)
