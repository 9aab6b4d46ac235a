-- Where the stop number cuts the clearing, the stores made are the first of all of them, and more are needed than it allows.
-- Else the table is the cleared one, and the counts are corrected from there, with the stores that are then left.
use mathlib.Core.Bool.{true}
use mathlib.Core.Path.{◌≡◌}
use native.Mathlib.Omega.{arith}
use lib.ListN.{length}
use Rattle.paper.specs.Count.{recounts}
use Rattle.paper.specs.Table.{sized}
use Rattle.laws.proofs.Sound.{sized-whole}
use Rattle.effects.proofs.Counted.{counted-after}
use Rattle.sweep.specs.Lost.{all_stores}
use Rattle.effects.proofs.Allowed.{allowed-cut, allowed-both}
use Rattle.sweep.proofs.stores.clear_and_correct.Goals as goal

pub clear_lost-needed-requires : goal.clear_lost-needed-requires
clear_lost-needed-requires c = (sized-whole c.args.table.now c.requires).1

pub returns-then-stop-needed : goal.returns-then-stop-needed
unfolding all_stores
returns-then-stop-needed c =
    let cleared = c.clear_lost-needed.ensures in
    (allowed-cut _ _ _ _ _ _ cleared.0 c.if-stop-needed.true, omega (arith, cleared.1))

pub overflow_add-result : goal.overflow_add-result
overflow_add-result c =
    let n = c.clear_lost-needed.ensures.1 in
    let m = c.recount_all.ensures.1 in
    omega arith

pub returns : goal.returns
unfolding all_stores
returns c =
    let e : length c.clear_lost-needed.new.table ≡ length c.args.table.now = omega arith in
    let s : sized c.clear_lost-needed.new.table ≡ true = rw e c.requires in (
      allowed-both _ _ _ _ _ _ _ recounts c.clear_lost-needed.ensures.0 c.if-stop-needed.false
          (rw s at (counted-after _ _ c.args.stop c.clear_lost-needed.result _ _ c.recount_all.ensures.0)),
      omega (arith, c.clear_lost-needed.ensures.1, c.recount_all.ensures.1),
    )
