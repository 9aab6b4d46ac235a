-- A table of free records is sound, and 65,535 in each place is its true index.
-- Assumes nothing.
use Rattle.filebox.proofs.TrueIndex.{begins-true}
use Rattle.filebox.proofs.main.Goals as goal

pub serve-requires : goal.serve-requires
serve-requires c = begins-true
