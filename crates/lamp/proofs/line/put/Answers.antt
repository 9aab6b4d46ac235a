-- What fits is put after the line so far, and then the line is as long as both together, or full.
-- What was copied is as much as fits.
use native.Mathlib.Omega.{arith}
use Rattle.lamp.proofs.Lines.{grown}
use Rattle.lamp.proofs.line.put.Goals as goal

pub returns : goal.returns
returns c =
    let s = c.args in
    let y = c.copy_from_slice.new.self in
    grown s.line.now s.s.now y s.at c.min.result _ c.requires c.min.ensures (omega arith) c.copy_from_slice.ensures.after
