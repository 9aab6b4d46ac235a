-- Three stages: the file, the entries that name it, and the counts; what the file has is read before any store.
-- A sound table's file has at most 1,000 text records, and a heading's count is a number of two bytes.
use Rattle.elephant.proofs.Clearings.{freed-rooms}
use Rattle.elephant.proofs.Destroying.{paths-cleared}
use Rattle.elephant.proofs.destroy.clear_paths.Goals as goal

pub returns : goal.returns
returns c =
    let a = c.args in
    let p = c.requires in
    let e = freed-rooms a.table.now a.heading.0 p.0 p.1 p.2 _ _ _ c.text_rooms.ensures c.blocks-count.ensures
    c.text_length.ensures.0 in
    paths-cleared a.table.now a.heading.0 p.0 p.1 p.2 _ _ e _ _ _ _ _ _ _ _ _ c.clear_file-after_file.ensures c.clear_naming-after_entries.ensures
    c.recount_all-counts.ensures.0 c.named_count-entries.ensures.0 c.spent.ensures
