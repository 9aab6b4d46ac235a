-- The heading is laid out before the walk, and the walk chooses: stopped, or in the directory.
-- The declared parts have the numbers that the plan gives them, and the length is the text's.
use Rattle.records.specs.Part.{meant_part}
use Rattle.elephant.proofs.Makes.{wrs-stops, wrs-reaches, or-else}
use Rattle.elephant.proofs.Ends.{own, handed, reached-held}
use Rattle.elephant.proofs.making.wrs.Goals as goal

pub file_in-requires : goal.file_in-requires
file_in-requires c =
    let a = c.args in
    let p = c.requires in
    let w = rw c.own.ensures at c.in_ok-to_directory.ensures in (
      p,
      record {
        held = reached-held a.table.now a.line.now a.user 2 (own a.name) _ w (record { sized = p.size; sound = p.sound });
        type = _;
        lev = _;
        code = _;
        life = _;
        size = _;
        is = c.laid-heading.ensures;
      },
    )

pub returns-in_err-to_directory : goal.returns-in_err-to_directory
returns-in_err-to_directory c =
    let a = c.args in
    let w = rw c.own.ensures at c.in_err-to_directory.ensures in
    wrs-stops a.table.now a.line.now a.user a.name a.stop (meant_part a.declared.level) (meant_part a.declared.digit) a.text.now a.lifetime _ w _
    (handed _ _ c.from_residual.ensures.1)

pub returns : goal.returns
returns c =
    let a = c.args in
    let w = rw c.own.ensures at c.in_ok-to_directory.ensures in
    wrs-reaches a.table.now a.line.now a.user a.name a.stop (meant_part a.declared.level) (meant_part a.declared.digit) a.text.now a.lifetime _ w _ _
    (rw (c.laid-heading.ensures, c.unwrap_or-2.ensures, c.unwrap_or.ensures, or-else, or-else) at c.file_in.ensures)
