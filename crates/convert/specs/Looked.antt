-- What is looked at before a table is converted: whether each entry is the one that its name lays.
use Rattle.std.specs.Prelude.{Bool, ◌&&◌, List, ℕ}
use Rattle.paper.specs.Scan.{all_below}
use Rattle.paper.specs.Record.{is_kind}
use Rattle.paper.specs.Layout.{Layout, name_of}
use Rattle.paper.specs.Table.{rooms, rec}
use Rattle.paper.specs.Name.{same, link_name}
use Rattle.paper.specs.Sound.{implies}
use Rattle.paper.specs.Effect.{renamed}

-- an entry bears a link name, and is as an entry of that name would be
unfoldable pub legible : Layout → List ℕ → Bool
legible L r = link_name (name_of L r) && same r (renamed L r (name_of L r))

-- a record is, if it is an entry
unfoldable pub legible_at : Layout → List ℕ → ℕ → Bool
legible_at L t i = implies (is_kind 2 (rec t i)) (legible L (rec t i))

-- every entry of a table is
unfoldable pub all_legible : Layout → List ℕ → Bool
all_legible L t = all_below (legible_at L t) (rooms t)
