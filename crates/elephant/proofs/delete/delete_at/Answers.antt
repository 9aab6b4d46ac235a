-- Each return is one case of `del_at`: 14, 18, the entry with its counts, or these and the file.
-- Whether the file is lost and whether a directory has entries is read from its heading, whose counts are true.
use mathlib.Core.Path.{refl, sym, ◌∙◌}
use Rattle.answers.specs.Shown.{place_meant}
use Rattle.elephant.proofs.Clearings.{del-shut, del-kept, del-peopled, del-freed}
use Rattle.elephant.proofs.delete.delete_at.Goals as goal

pub returns-then-inhibits_write : goal.returns-then-inhibits_write
returns-then-inhibits_write c =
    let a = c.args in
    del-shut a.table.now (place_meant a.place) a.left a.ends.directory a.ends.file (rw c.inhibits_write.ensures at c.if-inhibits_write.true) _ refl

pub returns-then-not-is_last : goal.returns-then-not-is_last
returns-then-not-is_last c =
    let a = c.args in
    del-kept a.table.now (place_meant a.place) a.left a.ends.directory a.ends.file (rw c.inhibits_write.ensures at c.if-inhibits_write.false) c.requires
    c.heading_named-heading.result.0 c.heading_named-heading.ensures.0 (sym c.is_last.ensures ∙ c.if-not-is_last.true) _ _
    c.clear_entry.ensures

pub returns-then-is_directory_peopled : goal.returns-then-is_directory_peopled
returns-then-is_directory_peopled c =
    let a = c.args in
    del-peopled a.table.now (place_meant a.place) a.left a.ends.directory a.ends.file
    (rw c.inhibits_write.ensures at c.if-inhibits_write.false) c.requires
    c.heading_named-heading.result.0 c.heading_named-heading.ensures.0 (sym c.is_last.ensures ∙ c.if-not-is_last.false)
    (rw c.is_directory_peopled.ensures at c.if-is_directory_peopled.true) _ refl

pub returns : goal.returns
returns c =
    let a = c.args in
    del-freed a.table.now (place_meant a.place) a.left a.ends.directory a.ends.file
    (rw c.inhibits_write.ensures at c.if-inhibits_write.false) c.requires
    c.heading_named-heading.result.0 c.heading_named-heading.ensures.0 (sym c.is_last.ensures ∙ c.if-not-is_last.false)
    (rw c.is_directory_peopled.ensures at c.if-is_directory_peopled.false) _ _ c.clear_both.ensures
