-- A heading whose counts move has one store, and where both headings are one it is counted once.
-- So they are at most two.
use borrow.Author.Tests.{eq-eqb}
use Rattle.effects.proofs.Recounts.{counts-alone, counts-two}
use Rattle.effects.proofs.counts.count_moves.Goals as goal
use Rattle.effects.proofs.counts.count_moves.Goals.{then-low-high, else-low-high}

pub returns : goal.returns
returns c =
    let n = c.args.moves in
    let e = c.both_of.ensures in
    let f = rw c.rooms-most.ensures at c.is_moved-first.ensures in
    elim c.if-low-high.branch [
      | then-low-high w ↦
          let g = rw c.rooms-most.ensures at w.is_moved-second.ensures in
          rw (c.from.ensures, c.from-2.ensures, w.second-is) (counts-two _ n _ _ _ _ e.0 e.1 w.if-low-high.true f g)
      | else-low-high w ↦
          rw (c.from.ensures, c.from-2.ensures, w.second-is, eq-eqb _ _ w.if-low-high.false) (counts-alone _ n _ _ _ e.0 e.1 w.if-low-high.false f)
    ]
