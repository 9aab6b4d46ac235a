-- The first eight bytes are set; the bytes held are laid over zeros behind them, so that they are padded;
-- a whole block takes the place of all of these.
use mathlib.Core.Path.{◌∙◌}
use native.Mathlib.Omega.{arith}
use Rattle.paper.specs.Number.{bytes_of}
use Rattle.records.proofs.Builds.{text-over}
use Rattle.records.proofs.Copies.{sets-put}
use Rattle.records.proofs.text.Text.laid.Goals as goal

pub returns-then-held-eq-MOST_HELD : goal.returns-then-held-eq-MOST_HELD
unfolding bytes_of
returns-then-held-eq-MOST_HELD c =
    let a = c.args in
    let held = c.part-held.result.now in
    rw (c.copy_from_slice.ensures.after, c.copy_in-2.ensures, c.copy_in.ensures, c.two_bytes.ensures, c.two_bytes-2.ensures)
    (sets-put _ held 8 24 c.if-held-eq-MOST_HELD.true (omega arith)
    ∙ text-over a.self.heading.0 a.self.position.0 a.bytes.now held c.part-held.ensures)

pub returns-else-held-eq-MOST_HELD : goal.returns-else-held-eq-MOST_HELD
unfolding bytes_of
returns-else-held-eq-MOST_HELD c =
    let a = c.args in
    rw (c.copy_in-else-held-eq-MOST_HELD.ensures, c.copy_in-2.ensures, c.copy_in.ensures, c.two_bytes.ensures, c.two_bytes-2.ensures)
    (text-over a.self.heading.0 a.self.position.0 a.bytes.now _ c.part-held.ensures)
