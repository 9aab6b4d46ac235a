-- Entries counted: how many of those below i name each record, and how many stand in each directory.
use Rattle.std.specs.Prelude.{List, ◌≡◌, ℕ, ◌<◌, get_or, length}
use Rattle.paper.specs.Entry.{in_directory, stands}
use Rattle.paper.specs.Record.{names}
use Rattle.paper.specs.Scan.{count_below}
use Rattle.paper.specs.Table.{rec}

-- how many entries below i name heading h
unfoldable pub naming : List ℕ → ℕ → ℕ → ℕ
naming t i h = count_below (λ j. names h (rec t j)) i

-- how many entries below i stand in directory d
unfoldable pub holding : List ℕ → ℕ → ℕ → ℕ
holding t i d = count_below (λ j. stands (in_directory d) (rec t j)) i

-- each record a table may have, with its number
pub record Numbered (f : ℕ → ℕ) (a : List ℕ) : Type 0 where
  pub at : (h : ℕ) → h < 2048 → get_or a h 0 ≡ f h
  pub long : length a ≡ 2048
