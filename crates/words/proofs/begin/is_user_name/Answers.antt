-- The point and the length are tested,
-- then every byte after the point is a digit.
use native.Mathlib.Omega.{arith}
use Rattle.std.proofs.Common.{rules}
use Rattle.std.proofs.lemmas.Iterator.{YieldsList-from_slice}
use Rattle.std.proofs.lemmas.Iterator.Adapters.{YieldsList-from_skip}
use Rattle.std.proofs.lemmas.Iterator.Search.{all_from_yields_List}
use borrow.Author.Tests.{tests}
use Rattle.paper.specs.Name.{in_number}
use Rattle.words.proofs.Names.{user_tests}
use Rattle.words.proofs.begin.is_user_name.Goals as goal

pub returns-then-n-eq-BYTES : goal.returns-then-n-eq-BYTES
returns-then-n-eq-BYTES c =
    let n = c.args.n.now in
    let a =
    all_from_yields_List in_number _ _ c.all.result c.all.ensures.ran (YieldsList-from_skip 1 (YieldsList-from_slice n cc) c.skip.ensures.count)
    (λ x b q k. search (rules, tests)) in
    grind (arith, user_tests)
