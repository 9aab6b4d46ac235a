-- Entries numbered in their places.
use Rattle.std.specs.Prelude.{Bool, true, List, ◌≡◌, ℕ, ◌+◌, ◌*◌, ◌/◌, ◌%◌, ◌<◌, leb, get_or, length}
use Rattle.paper.specs.Scan.{count_below}
use Rattle.paper.specs.Record.{is_kind, holder_of, user_of}
use Rattle.paper.specs.Table.{rec}
use Rattle.paper.specs.Entry.{holder, stands, limit}
use Rattle.paper.specs.Sound.{implies}

-- any function of what `stands` compares will do
unfoldable pub place_of : List ℕ → ℕ
place_of r = (holder_of r * 237074338683 + user_of r * 159217510859) / 16777216 % 2048

-- record j is an entry that stands where entry i does
abbrev pub beside_to : List ℕ → ℕ → ℕ → Bool
beside_to t i j = stands (holder (rec t i)) (rec t j)

-- how many entries there are in the place of entry i, up to entry i
unfoldable pub rank_of : List ℕ → ℕ → ℕ
rank_of t i = count_below (beside_to t i) (i + 1)

-- record i, if it is an entry, is not past the limit of its place
abbrev pub roomy : List ℕ → ℕ → Bool
roomy t i = implies (is_kind 2 (rec t i)) (leb (rank_of t i) (limit (holder (rec t i))))

-- each entry below i has its number
pub record Ranked (t rank : List ℕ) (i : ℕ) : Type 0 where
  pub at : (j : ℕ) → j < i → is_kind 2 (rec t j) ≡ true → get_or rank j 0 ≡ rank_of t j
  pub long : length rank ≡ 2048
