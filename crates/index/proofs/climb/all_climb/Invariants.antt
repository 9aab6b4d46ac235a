-- What is left decides: each place goes on from the rank after the last one,
-- by the turn of the definition.
use mathlib.Core.Path.{◌≡◌}
use lib.ListN.{drop}
use Rattle.paper.specs.Table.{rooms}
use Rattle.paper.specs.Index.{rank, is_entry}
use Rattle.index_laws.specs.Climbs.{climbs}
use Rattle.index.specs.Shown.{rank_shown}
use Rattle.index.proofs.climb.all_climb.Given as goal

abbrev pub invariant-loop-number : goal.invariant-loop-number
invariant-loop-number l =
    let climb = climbs (rank l.t) (is_entry l.t) (rooms l.t) in
    climb (rank_shown l.low) (drop l.number-index l.x) ≡ climb 0 l.x
