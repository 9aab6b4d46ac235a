-- One record of a table moved from one layout into another.
use Rattle.std.specs.Prelude.{cond, List, ℕ}
use Rattle.paper.specs.Record.{is_kind}
use Rattle.paper.specs.Layout.{Layout}
use Rattle.paper.specs.Table.{rec, lay}
use Rattle.paper.specs.Convert.{moved}

-- the table with record i moved, if it is an entry
unfoldable pub turned : Layout → Layout → List ℕ → ℕ → List ℕ
turned A B t i = cond (is_kind 2 (rec t i)) (lay t i (moved A B (rec t i))) t
