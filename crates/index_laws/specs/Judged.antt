-- What `is_true` and `repair` ask of a table and a list beside the definitions: no rank twice, and a place for each record.
use Rattle.std.specs.Prelude.{Bool, ◌&&◌, not, List, ℕ, eqb, length}
use Rattle.paper.specs.Scan.{all_below, any_below}
use Rattle.paper.specs.Table.{sized, rooms}
use Rattle.paper.specs.Index.{rank, is_entry, is_true}

-- record i is an entry of rank k
unfoldable pub ranks : List ℕ → ℕ → ℕ → Bool
ranks t k i = is_entry t i && eqb (rank t i) k

-- no entry has the rank of an entry before it, as in every sound table
unfoldable pub apart : List ℕ → Bool
apart t = all_below (λ j. not (is_entry t j && any_below (ranks t (rank t j)) j)) (rooms t)

-- the list is the true index of a table that has no rank twice
unfoldable pub judged : List ℕ → List ℕ → Bool
judged t x = apart t && is_true t x

-- a list with a place for each record of a table of fit size
unfoldable pub fitting : List ℕ → List ℕ → Bool
fitting t x = sized t && eqb (length x) (rooms t)
