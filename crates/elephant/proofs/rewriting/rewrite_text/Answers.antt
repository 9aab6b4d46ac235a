-- The heading's two records are read before any store, and so are the records of the old text; those of the new text are listed once the old
-- text is gone. The four stages one after the other are the rewriting.
use Rattle.elephant.proofs.Rewrites.{rewrites}
use Rattle.elephant.proofs.rewriting.rewrite_text.Goals as goal

pub returns : goal.returns
returns c =
    let a = c.args in
    let p = c.requires in
    rw c.blocks-most.ensures
    (rewrites a.table.now a.heading.0 a.text.now p.0 p.1 p.2 p.3
    _ _ _ c.text_rooms.ensures c.blocks-count.ensures c.text_length.ensures.0
    _ _ _ _ _ _ _ _ _ _ _ _ c.rewritten-marked.ensures c.rewritten-unmarked.ensures
    c.put-first.ensures c.clear_texts-second.ensures (rw c.blocks-most.ensures at c.free_rooms.ensures)
    c.put_texts-third.ensures c.put.ensures)
