-- The plain scan of a table for a rank, as a look-up's answer.
use Rattle.std.specs.Prelude.{true, false, List, ℕ}
use Rattle.paper.specs.Scan.{Found, at, nowhere, first_below}
use Rattle.paper.specs.Table.{rooms}
use Rattle.paper.specs.Index.{Met}
use Rattle.index_laws.specs.Judged.{ranks}

-- what was found, if it was, with this count
abbrev pub met_by : Found → ℕ → Met
met_by (at e) n = record { found = true; entry = e; count = n }
met_by nowhere n = record { found = false; entry = 65535; count = n }

-- the entry of rank y
unfoldable pub scanned : List ℕ → ℕ → ℕ → Met
scanned t y n = met_by (first_below (ranks t y) (rooms t)) n
