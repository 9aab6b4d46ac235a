-- The phase of the code, for the paper's number.
use Rattle.std.specs.Prelude.{ℕ}
use Rattle.disk.specs.Phase.{still, first, entry, last}
use Rattle.phases.specs.declared.number.Phase.{Phase}
use Rattle.phases.specs.declared.number.Phase.TheVariants as phase

-- "0 same, 1 first, 2 entry, 3 last"
abbrev pub phase_meant : Phase → ℕ
phase_meant phase.Same = still
phase_meant phase.First = first
phase_meant phase.Entry = entry
phase_meant phase.Last = last
