-- The whole text is the part from byte 0 on that is as long as the heading says,
-- since the table is of fit size and sound.
use native.Mathlib.Omega.{arith}
use Rattle.elephant.proofs.Written.{all_there}
use Rattle.elephant.proofs.reply.copy_text.Goals as goal

pub copy_part-requires : goal.copy_part-requires
copy_part-requires c =
    let p = c.requires in
    (p.0, p.1, omega (arith, c.text_length.ensures.0))

pub returns : goal.returns
returns c =
    let a = c.args in
    let p = c.requires in
    rw (← (all_there a.table.now a.heading.0 p.0 p.1 c.text_length.result.0 c.text_length.ensures.0)) c.copy_part.ensures
