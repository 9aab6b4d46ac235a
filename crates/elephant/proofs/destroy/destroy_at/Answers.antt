-- Each return is one case of `dst_at`: 14, 18, or the stores.
-- Whether a directory has entries is read from its heading, whose counts are true.
use mathlib.Core.Path.{refl}
use Rattle.answers.specs.Shown.{place_meant}
use Rattle.elephant.proofs.Destroying.{dst-shut, dst-peopled, dst-destroyed}
use Rattle.elephant.proofs.destroy.destroy_at.Goals as goal

pub returns-then-inhibits_write : goal.returns-then-inhibits_write
returns-then-inhibits_write c =
    let a = c.args in
    dst-shut a.table.now (place_meant a.place) a.left a.f (rw c.inhibits_write.ensures at c.if-inhibits_write.true) _ refl

pub returns-then-is_directory_peopled : goal.returns-then-is_directory_peopled
returns-then-is_directory_peopled c =
    let a = c.args in
    dst-peopled a.table.now (place_meant a.place) a.left a.f (rw c.inhibits_write.ensures at c.if-inhibits_write.false) c.requires
    c.heading_named-heading.result.0 c.heading_named-heading.ensures.0 (rw c.is_directory_peopled.ensures at c.if-is_directory_peopled.true) _ refl

pub returns : goal.returns
returns c =
    let a = c.args in
    dst-destroyed a.table.now (place_meant a.place) a.left a.f (rw c.inhibits_write.ensures at c.if-inhibits_write.false) c.requires
    c.heading_named-heading.result.0 c.heading_named-heading.ensures.0 (rw c.is_directory_peopled.ensures at c.if-is_directory_peopled.false) _ _
    c.clear_paths.ensures
