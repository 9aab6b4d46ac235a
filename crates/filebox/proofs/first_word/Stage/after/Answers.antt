-- In each arm the stage is known, and the byte is the key of that arm
-- or, in the last one, none of the keys.
use Rattle.filebox.proofs.first_word.Stage.after.Goals as goal

pub returns-in-32 : goal.returns-in-32
returns-in-32 c = rw (c.in-Blanks.is, c.in-32.is)

pub returns-in-87 : goal.returns-in-87
returns-in-87 c = rw (c.in-Blanks.is, c.in-87.is)

pub returns-in-82 : goal.returns-in-82
returns-in-82 c = rw (c.in-W.is, c.in-82.is)

pub returns-in-83 : goal.returns-in-83
returns-in-83 c = rw (c.in-Wr.is, c.in-83.is)

pub returns-in-32-b : goal.returns-in-32-b
returns-in-32-b c = rw (c.in-Wrs.is, c.in-32-b.is)

pub returns-in-42 : goal.returns-in-42
returns-in-42 c = rw (c.in-Wrs.is, c.in-42.is)

pub returns-in-32-b-2 : goal.returns-in-32-b-2
returns-in-32-b-2 c = rw (c.in-Star.is, c.in-32-b-2.is)

pub returns-in-32-b-3 : goal.returns-in-32-b-3
returns-in-32-b-3 c = rw (c.in-Gap.is, c.in-32-b-3.is)

pub returns-in-58 : goal.returns-in-58
returns-in-58 c = rw (c.in-Gap.is, c.in-58.is)
