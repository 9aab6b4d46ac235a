-- Records counted: what a test of each record says of every record that a table may have.
use Rattle.std.specs.Prelude.{Bool, false, ◌&&◌, ◌≡◌, List, ℕ, ◌<◌, eqb, get_or, Option, Some, None}
use Rattle.paper.specs.Record.{names}
use Rattle.paper.specs.Scan.{count_below}
use Rattle.paper.specs.Table.{rooms, rec}
use Rattle.records.specs.declared.bytes.Room.{Room}

-- a record that is counted for another, or for none
abbrev pub counted_for : Option Room → ℕ → Bool
counted_for None h = false
counted_for (Some r) h = eqb r.0 h

-- it is counted for those of the first 2,048 that the test says
abbrev pub Tells : Option Room → (ℕ → Bool) → Type 0
Tells r is = (h : ℕ) → h < 2048 → is h ≡ counted_for r h

-- whatever P says of each of the first n records, it is counted as the test says
abbrev pub Says : (Room → Option Room → Type 0) → (ℕ → ℕ → Bool) → ℕ → Type 0
Says P is n = (i : ℕ) (r : Option Room) → i < n → P (record { 0 = i }) r → Tells r (is i)

-- how many entries name record h, of those that bear no mark in `gone`
unfoldable pub namings_left : List ℕ → List ℕ → ℕ → ℕ
namings_left gone t h = count_below (λ i. names h (rec t i) && eqb (get_or gone i 0) 0) (rooms t)
