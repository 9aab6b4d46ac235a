-- The entries of each directory in a list, found without a scan: from its last entry back, each entry to the one before it there. One list of numbers holds
-- them all, for a heading is no entry.
use Rattle.std.specs.Prelude.{Bool, true, ◌&&◌, List, ◌≡◌, ℕ, ◌<◌, eqb, length, get_or}
use Rattle.paper.specs.Record.{byte, is_kind, holder_of}
use Rattle.paper.specs.Table.{rec}
use Rattle.judge_laws.specs.Tally.{last_below}

-- record i is an entry of directory d
abbrev pub inside : List ℕ → ℕ → ℕ → Bool
inside t d i = is_kind 2 (rec t i) && eqb (holder_of (rec t i)) d

-- the entries below n are listed: at the place of each heading one more than its last one, or 0, and at that of each of these the same of those before it
pub record Listed (t : List ℕ) (n : ℕ) (list : List ℕ) : Type 0 where
  pub from : (d : ℕ) → byte (rec t d) 0 ≡ 1 → get_or list d 0 ≡ last_below (inside t d) n
  pub on : (e d : ℕ) → e < n → byte (rec t d) 0 ≡ 1 → inside t d e ≡ true → get_or list e 0 ≡ last_below (inside t d) e
  pub long : length list ≡ 2048
