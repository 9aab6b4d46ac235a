-- What a sheet is asked of: a table alone, or a table with its index. A job is said once, for any such state and any way of asking one
-- sheet of it; each filing and each reading is then one request of document 01, or one of document 02, i, with the index.
use Rattle.std.specs.Prelude.{List, ℕ}
use Rattle.paper.specs.Answer.{Outcome}
use Rattle.paper.specs.Index.{Kept}

-- a table and the list lent beside it
pub record Indexed : Type 0 where
  pub table : List ℕ
  pub index : List ℕ

abbrev pub beside : (table index : List ℕ) → Indexed
beside t x = record { table = t; index = x }

-- one sheet asked of a state: the outcome, and the state after it
pub record Told (S : Type 0) : Type 0 where
  pub outcome : Outcome
  pub state : S

abbrev pub of_table : Outcome → Told (List ℕ)
of_table o = record { outcome = o; state = o.table }

abbrev pub of_indexed : Kept → Told Indexed
of_indexed o = record { outcome = o.outcome; state = beside o.outcome.table o.index }
