-- The text is copied out before any store, and as much of the copy as the heading's length says is the file's text.
-- What is not declared is read from the source's heading.
use mathlib.Core.Path.{sym, ◌∙◌}
use Prim.Native.Nat.{ℕ}
use native.Mathlib.Omega.{arith}
use lib.ListN.{length-replicate}
use Rattle.elephant.specs.Done.{Fit}
use Rattle.effects.proofs.Lengths.{text-length}
use Rattle.paper.specs.Request.{own}
use Rattle.elephant.proofs.Makes.{or-else}
use Rattle.elephant.proofs.Walking.{late-ends}
use Rattle.elephant.proofs.Written.{text-few, text-copied}
use Rattle.elephant.proofs.copying.copy.Goals as goal

pub file-requires : goal.file-requires
file-requires c =
    let a = c.args in
    let p = c.requires in
    let f : Fit a.table.now = record { sized = p.0.size; sound = p.0.sound } in
    let x = text-copied a.table.now a.source.0 f p.1 _ _ c.text_length-length.result.0 (rw (length-replicate {A = ℕ} 24000 0) (omega arith))
    c.copy_text.ensures c.text_length-length.ensures.0 in (
      record {
        size = p.0.size;
        sound = p.0.sound;
        short = p.0.short;
        brief = p.0.brief;
        few = rw (c.part.ensures ∙ x)
            (text-few a.table.now a.source.0 f p.1);
      },
      record { held = p.2; type = _; lev = _; code = _; life = _; size = _; is = c.laid-heading.ensures },
    )

pub returns : goal.returns
returns c =
    let a = c.args in
    let p = c.requires in
    let f : Fit a.table.now = record { sized = p.0.size; sound = p.0.sound } in
    let x = text-copied a.table.now a.source.0 f p.1 _ _ c.text_length-length.result.0 (rw (length-replicate {A = ℕ} 24000 0) (omega arith))
    c.copy_text.ensures c.text_length-length.ensures.0 in
    let least = rw (c.unwrap_or-level.ensures, c.level_of.ensures, or-else) at c.check_copy-late.ensures in
    late-ends a.table.now a.stop _ own _ _ least _ _
    (rw (
      c.part.ensures
          ∙ x,
      c.laid-heading.ensures,
      c.unwrap_or-2.ensures,
      c.lifetime_of.ensures,
      c.unwrap_or-level.ensures,
      c.level_of.ensures,
      c.unwrap_or.ensures,
      or-else,
      or-else,
      or-else,
      c.text_length-length.ensures.0 ∙ sym (text-length a.table.now a.source.0 f.sized f.sound p.1),
    ) at c.file.ensures)
