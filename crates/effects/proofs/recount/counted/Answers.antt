-- The bytes changed are those of the two numbers, the second only in a directory,
-- as in the definition.
use mathlib.Core.Path.{◌≡◌, sym, ◌∙◌}
use Rattle.paper.specs.Table.{rec}
use Rattle.laws.proofs.Lay.{length-rec}
use Rattle.records.proofs.Builds.{whole-there}
use Rattle.effects.proofs.Corrected.{told-file, told-directory}
use Rattle.effects.proofs.recount.counted.Goals as goal

pub returns-then-is_directory : goal.returns-then-is_directory
returns-then-is_directory c =
    let t = c.args.table.now in
    let i = c.args.room.0 in
    let e : c.whole-r.result ≡ rec t i = c.whole-r.ensures ∙ whole-there t i c.requires in
    let d = sym c.is_directory.ensures ∙ c.if-is_directory.true in
    rw (c.copy_in-then-is_directory.ensures, c.copy_in.ensures, c.two_bytes.ensures, c.two_bytes-then-is_directory.ensures, e)
    (told-directory c.args.named c.args.held (rec t i) (length-rec t i c.requires) d)

pub returns-else-is_directory : goal.returns-else-is_directory
returns-else-is_directory c =
    let t = c.args.table.now in
    let i = c.args.room.0 in
    let e : c.whole-r.result ≡ rec t i = c.whole-r.ensures ∙ whole-there t i c.requires in
    let d = sym c.is_directory.ensures ∙ c.if-is_directory.false in
    rw (c.copy_in.ensures, c.two_bytes.ensures, e)
    (told-file c.args.named c.args.held (rec t i) (length-rec t i c.requires) d)
