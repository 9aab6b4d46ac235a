-- "New records take the lowest free records of the table before the request, in the order of the stores", one after the other.
use Rattle.std.specs.Prelude.{Bool, ◌&&◌, List, ℕ, leb}
use Rattle.paper.specs.Scan.{first_below}
use Rattle.paper.specs.Record.{is_kind}
use Rattle.paper.specs.Table.{rooms, rec, place}

-- record j is free, and from i on
abbrev pub free_from : List ℕ → ℕ → ℕ → Bool
free_from t i j = leb i j && is_kind 0 (rec t j)

-- the lowest free record from i on, or one past the last
unfoldable pub next_free : List ℕ → ℕ → ℕ
next_free t i = place t (first_below (free_from t i) (rooms t))
