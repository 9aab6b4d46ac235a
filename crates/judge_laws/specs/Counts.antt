-- Headings named, and what they say of it: how many entries name them and, if they are directories', how many they hold.
use Rattle.std.specs.Prelude.{Bool, ◌&&◌, List, ℕ}
use Rattle.paper.specs.Count.{counts_right}
use Rattle.paper.specs.Record.{is_kind}
use Rattle.paper.specs.Layout.{boxed}
use Rattle.paper.specs.Table.{rec}
use Rattle.paper.specs.Entry.{named}
use Rattle.paper.specs.Sound.{implies, all_named, counts_true, shaped}

-- record i, if it is a heading, is named and, where counts are judged, says how it is
abbrev pub headed : Bool → List ℕ → ℕ → Bool
headed counted t i = implies (is_kind 1 (rec t i)) (named t i && implies counted (counts_right t i (rec t i)))

-- every heading
unfoldable pub all_headed : Bool → List ℕ → Bool
all_headed counted t = all_named t && implies counted (counts_true t)

-- sound or, where counts are not judged, all of it but the counts
unfoldable pub sound_but : Bool → List ℕ → Bool
sound_but counted t = shaped boxed t && implies counted (counts_true t)
