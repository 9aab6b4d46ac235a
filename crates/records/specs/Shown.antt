-- What this crate's arguments stand for on paper.
use Rattle.paper.specs.Entry.{Holder}
use Rattle.records.specs.declared.entry.Holder as given

-- a directory's heading, or 65,535 and a user
abbrev pub holder_shown : given.Holder → Holder
holder_shown d = record { heading = d.heading.0; user = d.user }
