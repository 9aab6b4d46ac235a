-- The line is legal or not,
-- as the definition tests.
use Rattle.paper.specs.Request.{read}
use Rattle.reader.proofs.request.read_line.Goals as goal

pub returns-then-is_legal_line : goal.returns-then-is_legal_line
unfolding read
returns-then-is_legal_line c = rw (← c.is_legal_line.ensures, c.if-is_legal_line.true) c.read_function.ensures

pub returns-else-is_legal_line : goal.returns-else-is_legal_line
unfolding read
returns-else-is_legal_line c = rw (← c.is_legal_line.ensures, c.if-is_legal_line.false, c.whole.ensures)
