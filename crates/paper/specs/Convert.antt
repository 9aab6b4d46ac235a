-- Document 02: "Converting a sound old table and back loses nothing (others get 1 or 2 and stay)", between any two layouts of names.
use Rattle.std.specs.Prelude.{not, cond, List, ℕ}
use Rattle.paper.specs.Record.{is_kind}
use Rattle.paper.specs.Layout.{Layout, name_of}
use Rattle.paper.specs.Table.{sized, rooms, rec}
use Rattle.paper.specs.Sound.{sound}
use Rattle.paper.specs.Store.{fills, run}
use Rattle.paper.specs.Effect.{renamed}

-- an entry with its name as B lays it; any other record as it is
unfoldable pub moved : Layout → Layout → List ℕ → List ℕ
moved A B r = cond (is_kind 2 r) (renamed B r (name_of A r)) r

-- the table record by record: every entry moved, all else as it is
unfoldable pub converted : Layout → Layout → List ℕ → List ℕ
converted A B t = run t (fills (λ i. is_kind 2 (rec t i)) (λ i. moved A B (rec t i)) (rooms t))

-- what the call answers, and the table after it
pub record Conversion : Type 0 where
  pub number : ℕ
  pub table : List ℕ

-- "others get 1 or 2 and stay"
unfoldable pub converting : Layout → Layout → List ℕ → Conversion
converting A B t =
    cond (not (sized t)) (record { number = 1; table = t })
    (cond (not (sound A t)) (record { number = 2; table = t }) (record { number = 0; table = converted A B t }))
