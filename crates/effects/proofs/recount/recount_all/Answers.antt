-- A table that is not sized has no store here; of any other the entries are counted,
-- and with their numbers every heading is corrected.
use mathlib.Core.Bool.{true}
use mathlib.Core.Path.{◌≡◌, sym, ◌∙◌}
use native.Mathlib.Omega.{arith}
use Rattle.paper.specs.Table.{sized}
use Rattle.laws.proofs.Sound.{sized-whole}
use Rattle.effects.proofs.Counted.{counted_none}
use Rattle.effects.proofs.recount.recount_all.Goals as goal

pub returns-then-not-is_sized : goal.returns-then-not-is_sized
returns-then-not-is_sized c =
    let e = sym c.is_sized.ensures ∙ c.if-not-is_sized.true in
    (rw e (counted_none _ _ _), omega arith)

pub correct_all-requires : goal.correct_all-requires
correct_all-requires c =
    let t = c.args.table.now in
    let s : sized t ≡ true = sym c.is_sized.ensures ∙ c.if-not-is_sized.false in (
      (sized-whole t s).1,
      rw s at c.count_names.ensures,
      rw s at c.count_holds.ensures,
    )

pub returns : goal.returns
returns c =
    let t = c.args.table.now in
    let s : sized t ≡ true = sym c.is_sized.ensures ∙ c.if-not-is_sized.false in
    (rw s c.correct_all.ensures.0, c.correct_all.ensures.1)
