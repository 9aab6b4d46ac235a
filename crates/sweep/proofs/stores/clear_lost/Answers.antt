-- Each stage goes on where the one before ended, with its count.
-- Clearing leaves the number of records, so all stages are over the records of the table as found.
use mathlib.Core.Path.{◌≡◌}
use native.Mathlib.Omega.{arith}
use Rattle.paper.specs.Table.{rooms}
use Rattle.sweep.specs.Lost.{lost_stores}
use Rattle.effects.proofs.Counted.{counted-both}
use Rattle.sweep.proofs.stores.clear_lost.Goals as goal

pub returns : goal.returns
unfolding lost_stores
returns c =
    let t = c.args.table.now in
    let e : rooms c.clear_marked-entries.new.table ≡ rooms t = omega arith in
    let f : rooms c.clear_marked-headings.new.table ≡ rooms t = omega arith in (
      counted-both _ _ _ _ _ _ _ _ _ c.clear_marked-entries.ensures.0
          (counted-both _ _ _ _ _ _ _ _ _ (rw e at c.clear_marked-headings.ensures.0) (rw f at c.clear_marked.ensures.0)),
      omega arith,
    )
