-- What this crate's values stand for on paper.
use Rattle.std.specs.Prelude.{cond, Ok, Err, ℕ, ◌+◌, ◌*◌, ◌^◌}
use Rattle.paper.specs.Index as paper
use Rattle.index.specs.declared.Found.{Found}
use Rattle.index.specs.declared.rank.Rank.{Rank}
use Rattle.index.specs.declared.search.Sought.{Sought}

-- a rank, in two numbers
unfoldable pub rank_shown : Rank → ℕ
rank_shown r = r.holder * 2 ^ 64 + r.name

-- what a search ended with
abbrev pub sought_shown : paper.Sought → Sought
sought_shown s = record { at = cond s.found (Ok s.place) (Err s.place); count = s.count }

-- what a look-up answers: 1 where the name was found, and else 0
abbrev pub found_shown : paper.Met → Found
found_shown m = record { found = cond m.found 1 0; entry = m.entry; count = m.count }
