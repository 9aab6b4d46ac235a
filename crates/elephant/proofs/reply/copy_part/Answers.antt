-- The rooms by position are listed, and of those that the part meets its bytes are gathered: that is the part of the file's text,
-- since the table is of fit size and sound.
use native.Mathlib.Omega.{arith}
use Rattle.effects.proofs.Lengths.{length-few}
use Rattle.elephant.proofs.Written.{part-there}
use Rattle.elephant.proofs.reply.copy_part.Goals as goal

pub overflow_add-end : goal.overflow_add-end
overflow_add-end c =
    let a = c.args in
    let p = c.requires in
    omega (arith, p.2, length-few a.table.now a.heading.0 p.0.sized p.0.sound p.1)

pub returns : goal.returns
returns c =
    let a = c.args in
    let p = c.requires in
    rw (← (part-there a.table.now a.heading.0 p.0 p.1 _ a.first.0 a.count.0 c.blocks-last.result.0
    c.text_rooms.ensures c.blocks-last.ensures p.2)) c.read_text.ensures
