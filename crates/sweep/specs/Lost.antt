-- The records that a sweep clears, as marks: found in the table as it is, before any store.
use Rattle.std.specs.Prelude.{Bool, cond, List, ◌++◌, ◌≡◌, ℕ, ◌<◌, eqb, get_or}
use Rattle.paper.specs.Count.{recounts}
use Rattle.paper.specs.Store.{Store, clears, run}
use Rattle.paper.specs.Sweep.{lost_entry, lost_heading, lost_text}
use Rattle.paper.specs.Table.{rooms}
use Rattle.sweep.specs.declared.stores.Lost.{Lost}
use Rattle.sweep.specs.declared.stores.Lost.TheVariants.{Stays, Entry, Heading, Text}

-- 1 for an entry that is lost, 2 for a heading, 3 for text
abbrev pub lost_mark : List ℕ → ℕ → ℕ
lost_mark t i = cond (lost_entry t i) 1 (cond (lost_heading t i) 2 (cond (lost_text t i) 3 0))

-- a mark as a number
abbrev pub mark_number : Lost → ℕ
mark_number Stays = 0
mark_number Entry = 1
mark_number Heading = 2
mark_number Text = 3

-- each record below n has its mark
abbrev pub LostBelow : List ℕ → List ℕ → ℕ → Type 0
LostBelow t lost n = (i : ℕ) → i < n → get_or lost i 0 ≡ lost_mark t i

abbrev pub has_mark : List ℕ → ℕ → ℕ → Bool
has_mark lost m i = eqb (get_or lost i 0) m

-- the stores that clear what is marked, "each by record number"
unfoldable pub lost_stores : List ℕ → List ℕ → List Store
lost_stores lost t = clears (has_mark lost 1) (rooms t) ++ (clears (has_mark lost 2) (rooms t) ++ clears (has_mark lost 3) (rooms t))

-- .. and then those that correct the counts
unfoldable pub all_stores : List ℕ → List ℕ → List Store
all_stores lost t = lost_stores lost t ++ recounts (run t (lost_stores lost t))
