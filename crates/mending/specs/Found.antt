-- What mending finds before any store: the records that go, as marks, and the order in which they are cleared.
use Rattle.std.specs.Prelude.{Bool, ◌&&◌, ◌||◌, List, ◌++◌, ◌≡◌, ℕ, eqb, get_or, length}
use Rattle.paper.specs.Scan.{count_below, each_below}
use Rattle.paper.specs.Count.{recounts}
use Rattle.paper.specs.Mend.{adrift, stray}
use Rattle.paper.specs.Record.{is_kind}
use Rattle.paper.specs.Store.{Store, clear, run}
use Rattle.paper.specs.Table.{rooms, rec}
use Rattle.judge_laws.specs.Mask.{goes, without}
use Rattle.mending.specs.declared.Going.{Going}
use Rattle.mending.specs.declared.Step.{Step}
use Rattle.mending.specs.declared.Step.TheVariants.{Entries, Headings, Text}

-- the stores that clear the first n records of the order
abbrev pub ordered : List ℕ → ℕ → List Store
ordered order n = each_below (λ m. clear (get_or order m 0)) n

-- .. and then those that correct the counts
unfoldable pub all_stores : List ℕ → ℕ → List ℕ → List Store
all_stores order n t = ordered order n ++ recounts (run t (ordered order n))

-- the first n records of the order are cleared by these stores, and they are those that are marked
pub record Found (t gone order : List ℕ) (n : ℕ) (stores : List Store) : Type 0 where
  pub made : ordered order n ≡ stores
  pub table : without gone t ≡ run t stores
  pub count : n ≡ count_below (goes gone) (rooms t)
  pub marks : length gone ≡ 2048
  pub places : length order ≡ 2048

-- .. of what goes
abbrev pub listed : Going → List Store
listed g = ordered g.order g.count

abbrev pub Goes : List ℕ → Going → List Store → Type 0
Goes t g = Found t g.gone g.order g.count

-- a heading for which no name is counted
abbrev pub unnamed : List ℕ → List ℕ → ℕ → Bool
unnamed named t i = is_kind 1 (rec t i) && eqb (get_or named i 0) 0

-- what a step clears
abbrev pub stepped : Step → List ℕ → List ℕ → ℕ → Bool
stepped Entries named t i = adrift t i
stepped Headings named t i = unnamed named t i
stepped Text named t i = stray t i

-- what any of the steps would clear
unfoldable pub unsettled : List ℕ → List ℕ → ℕ → Bool
unsettled named t i = adrift t i || (unnamed named t i || stray t i)
