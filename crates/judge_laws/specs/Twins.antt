-- Entries that stand in one place and bear one name, by its number.
use Rattle.std.specs.Prelude.{Bool, ◌&&◌, not, List, ℕ, ◌+◌, ◌*◌, ◌/◌, ◌%◌, eqb}
use Rattle.paper.specs.Entry.{holder, stands}
use Rattle.paper.specs.Layout.{packed_name}
use Rattle.paper.specs.Record.{is_kind, holder_of, user_of}
use Rattle.paper.specs.Scan.{any_below}
use Rattle.paper.specs.Sound.{implies, every}
use Rattle.paper.specs.Table.{rec}

-- record b is an entry that stands where entry a does and bears its name's number
abbrev pub twin : List ℕ → List ℕ → Bool
twin a b = stands (holder a) b && eqb (packed_name a) (packed_name b)

-- record j is a twin of entry i
abbrev pub twin_to : List ℕ → ℕ → ℕ → Bool
twin_to t i j = twin (rec t i) (rec t j)

-- record i, if it is an entry, has no twin before it
abbrev pub single : List ℕ → ℕ → Bool
single t i = implies (is_kind 2 (rec t i)) (not (any_below (twin_to t i) i))

-- no entry has a twin before it
unfoldable pub no_twins : List ℕ → Bool
no_twins t = every 2 (λ i r. not (any_below (λ j. twin r (rec t j)) i)) t

-- any function of what twins share will do
unfoldable pub hash_of : List ℕ → ℕ
hash_of r =
    (holder_of r * 926071635 + user_of r * 621943401 + packed_name r / 4294967296 * 374761393 + packed_name r % 4294967296 * 1013904223)
    / 16777216
    % 2048
