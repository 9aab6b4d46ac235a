-- Where the table ends within the record it is copied over 32 zeros,
-- so that it is padded with them.
use mathlib.Core.Path.{◌∙◌}
use Rattle.records.proofs.Builds.{whole-over}
use Rattle.records.proofs.store.whole.Goals as goal

pub returns-else-record-eq-SIZE : goal.returns-else-record-eq-SIZE
returns-else-record-eq-SIZE c = c.copy_in.ensures ∙ rw c.record_at-record.ensures (whole-over _ _)
