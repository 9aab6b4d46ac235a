-- The two tests of the word's stretch
-- are the definition's.
use Rattle.reader.proofs.Functions.{link-lone}
use Rattle.reader.proofs.request.is_link_alone.Goals as goal

pub returns-then-is_link_name : goal.returns-then-is_link_name
returns-then-is_link_name c = rw (link-lone, ← c.lone_word-w.ensures, ← c.if-is_link_name.ensures, c.are_same.ensures)
