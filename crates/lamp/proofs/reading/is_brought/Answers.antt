-- Any number but 0 brings nothing; with 0 the bytes at the front of the buffer are compared with the text.
-- That is the definition, by its two parts.
use mathlib.Core.Path.{◌∙◌}
use borrow.Author.Tests.{ne_eqb}
use Rattle.lamp.proofs.reading.is_brought.Goals as goal

pub returns-then-answer-eq0 : goal.returns-then-answer-eq0
returns-then-answer-eq0 c = c.are_same.ensures ∙ rw (c.part.ensures, c.if-answer-eq0.true)

pub returns-else-answer-eq0 : goal.returns-else-answer-eq0
returns-else-answer-eq0 c = rw (ne_eqb c.args.answer.number 0 c.if-answer-eq0.false)
