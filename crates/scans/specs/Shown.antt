-- What this crate's answers stand for on paper.
use Rattle.std.specs.Prelude.{Option, Some, None}
use Rattle.paper.specs.Scan as paper
use Rattle.records.specs.declared.bytes.Room.{Room}

-- where something was found, if it was
abbrev pub found_shown : paper.Found → Option Room
found_shown (paper.at i) = Some (record { 0 = i })
found_shown paper.nowhere = None
