-- Each part of the definition is one test, in its order; a test that fails decides.
-- A link name has at most ten bytes, so the zeros after it stay within the sheet.
use mathlib.Core.Bool.{◌&&◌}
use mathlib.Core.Path.{◌≡◌}
use Prim.Native.Nat.{◌-◌}
use native.Mathlib.Omega.{arith}
use lib.Dec.{eqb}
use lib.ListN.{length}
use borrow.Author.Tests.{ne_eqb}
use Rattle.paper.specs.Name.{link_name}
use Rattle.paper.specs.Record.{zeros}
use Rattle.paper.specs.Table.{rec}
use Rattle.job.specs.Sheet.{link_of}
use Rattle.lamp.proofs.Sheets.{formed-parts, link-short}
use Rattle.lamp.proofs.sheet.is_formed.Goals as goal
use Rattle.lamp.proofs.sheet.is_formed.Goals.{then-record_at-eq-SIZE, else-record_at-eq-SIZE, then-is_link_name, else-is_link_name}

pub overflow_sub-link : goal.overflow_sub-link
overflow_sub-link c = link-short _ _ c.link_of-link.ensures

pub are_zeros-requires : goal.are_zeros-requires
are_zeros-requires c =
    let l = link-short _ _ c.link_of-link.ensures in
    (omega arith, omega arith)

pub returns-then-are_zeros : goal.returns-then-are_zeros
returns-then-are_zeros c =
    let r = rec c.args.sheets.now c.args.i in
    let named : c.if-record_at-eq-SIZE.value ≡ (eqb (length r) 32 && link_name (link_of r)) = elim c.if-record_at-eq-SIZE.branch [
      | then-record_at-eq-SIZE w ↦
          rw (w.value-is, w.is_link_name.ensures, c.link_of-link.ensures, rw c.record_at.ensures at w.if-record_at-eq-SIZE.true)
      | else-record_at-eq-SIZE w ↦
          rw (w.value-is, c.record_at.ensures, ne_eqb (length r) 32 (rw c.record_at.ensures at w.if-record_at-eq-SIZE.false))
    ] in
    let padded : c.if-is_link_name.value ≡ ((eqb (length r) 32 && link_name (link_of r)) && zeros (length (link_of r)) (10 - length (link_of r)) r) =
    elim c.if-is_link_name.branch [
      | then-is_link_name w ↦ rw (w.value-is, w.are_zeros.ensures, c.link_of-link.ensures, ← named, w.if-is_link_name.true)
      | else-is_link_name w ↦ rw (w.value-is, ← named, w.if-is_link_name.false)
    ] in
    rw (formed-parts r, ← padded, c.if-are_zeros.true, c.are_zeros-then-are_zeros.ensures)

pub returns-else-are_zeros : goal.returns-else-are_zeros
returns-else-are_zeros c =
    let r = rec c.args.sheets.now c.args.i in
    let named : c.if-record_at-eq-SIZE.value ≡ (eqb (length r) 32 && link_name (link_of r)) = elim c.if-record_at-eq-SIZE.branch [
      | then-record_at-eq-SIZE w ↦
          rw (w.value-is, w.is_link_name.ensures, c.link_of-link.ensures, rw c.record_at.ensures at w.if-record_at-eq-SIZE.true)
      | else-record_at-eq-SIZE w ↦
          rw (w.value-is, c.record_at.ensures, ne_eqb (length r) 32 (rw c.record_at.ensures at w.if-record_at-eq-SIZE.false))
    ] in
    let padded : c.if-is_link_name.value ≡ ((eqb (length r) 32 && link_name (link_of r)) && zeros (length (link_of r)) (10 - length (link_of r)) r) =
    elim c.if-is_link_name.branch [
      | then-is_link_name w ↦ rw (w.value-is, w.are_zeros.ensures, c.link_of-link.ensures, ← named, w.if-is_link_name.true)
      | else-is_link_name w ↦ rw (w.value-is, ← named, w.if-is_link_name.false)
    ] in
    rw (formed-parts r, ← padded, c.if-are_zeros.false)
