-- Two stages: the entry with the counts that its clearing moves, and the file, whose rooms and length were read before any store.
-- A sound table's file has at most 1,000 text records, and at most two counts move.
use Rattle.elephant.proofs.Clearings.{freed-rooms, both-cleared}
use Rattle.elephant.proofs.delete.clear_both.Goals as goal

pub returns : goal.returns
returns c =
    let a = c.args in
    let p = c.requires in
    let e = freed-rooms a.table.now a.heading.0 p.0 p.1 p.2 _ _ _ c.text_rooms.ensures c.blocks-count.ensures
    c.text_length.ensures.0 in
    rw (← c.gone-moves.ensures)
    (both-cleared a.table.now a.entry.0 _ a.heading.0 _ _ e _ _ _ _ _ _ _ c.count_moves-counts.ensures.0 c.take_out-rest.ensures
    c.clear_file.ensures c.spent.ensures)
