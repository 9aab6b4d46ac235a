-- The heading is laid out before the walk, and the walk chooses: stopped, or in the directory.
-- The declared parts have the numbers that the plan gives them.
use native.Mathlib.Omega.{arith}
use Rattle.records.specs.Part.{meant_part}
use Rattle.elephant.proofs.Makes.{crd-stops, crd-reaches, or-else}
use Rattle.elephant.proofs.Ends.{own, handed, reached-held}
use Rattle.elephant.proofs.making.crd.Goals as goal

pub file_in-requires : goal.file_in-requires
file_in-requires c =
    let a = c.args in
    let p = c.requires in
    let w = rw c.own.ensures at c.in_ok-to_directory.ensures in (
      record { size = p.size; sound = p.sound; short = p.short; few = rw c.part.ensures (omega arith); brief = p.brief },
      record {
        held = reached-held a.table.now a.line.now a.user 1 (own a.name) _ w (record { sized = p.size; sound = p.sound });
        type = _;
        lev = _;
        code = _;
        life = _;
        size = _;
        is = c.laid-heading.ensures;
      },
    )

pub returns-in_err-to_directory : goal.returns-in_err-to_directory
returns-in_err-to_directory c =
    let a = c.args in
    let w = rw c.own.ensures at c.in_err-to_directory.ensures in
    crd-stops a.table.now a.line.now a.user a.name a.stop (meant_part a.declared.level) (meant_part a.declared.digit) _ w _
    (handed _ _ c.from_residual.ensures.1)

pub returns : goal.returns
returns c =
    let a = c.args in
    let w = rw c.own.ensures at c.in_ok-to_directory.ensures in
    crd-reaches a.table.now a.line.now a.user a.name a.stop (meant_part a.declared.level) (meant_part a.declared.digit) _ w _ _
    (rw (c.part.ensures, c.laid-heading.ensures, c.unwrap_or-2.ensures, c.unwrap_or.ensures, or-else, or-else) at c.file_in.ensures)
