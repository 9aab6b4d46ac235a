-- A piece of 24 bytes that fits takes the place of the 24 bytes there;
-- any other is copied as far as it fits.
use mathlib.Core.Path.{◌≡◌, ◌∙◌}
use native.Mathlib.Omega.{arith}
use lib.Seq.{take_all}
use Rattle.records.proofs.Copies.{sets-put}
use Rattle.effects.proofs.reading.copy_piece.Goals as goal

pub returns-then-saturating_sub-ge-MOST_HELD : goal.returns-then-saturating_sub-ge-MOST_HELD
returns-then-saturating_sub-ge-MOST_HELD c =
    let a = c.args in
    let e : c.copy_from_slice.new.self ≡ a.piece.now = c.copy_from_slice.ensures.after ∙ take_all 24 a.piece.now (omega arith) in
    rw e (sets-put a.into.now a.piece.now a.at _ (omega arith) (omega arith))
