-- 14 is the plan's first check: it refuses, or the plan ends as without it.
-- The entry followed is read before any store: the heading it names and its code are the plan's.
use mathlib.Core.Path.{refl, sym, ◌∙◌}
use native.Mathlib.Omega.{arith}
use Rattle.elephant.specs.Filing.{standing}
use Rattle.elephant.proofs.Makes.{or-else}
use Rattle.elephant.proofs.Walking.{shut-refused, open-ends}
use Rattle.elephant.proofs.making.dup_in.Goals as goal

pub returns-then-inhibits_write : goal.returns-then-inhibits_write
returns-then-inhibits_write c =
    let a = c.args in
    rw c.end-place.ensures (shut-refused a.table.now a.stop _ _ (rw c.inhibits_write.ensures at c.if-inhibits_write.true))

pub make-requires : goal.make-requires
make-requires c =
    let p = c.requires.0.named in
    record {
      size = p.size;
      sound = p.sound;
      free = rw c.part-text.ensures c.free_rooms.ensures;
      short = rw c.last_name-name.ensures p.short;
      few = rw c.part-text.ensures (omega arith);
      small = c.heading_named.ensures.1;
      held = c.requires.1;
      names = standing refl (rw c.heading_named.ensures.0 c.requires.2);
    }

pub returns : goal.returns
returns c =
    let a = c.args in
    open-ends a.table.now a.stop _ _ _ _ (rw c.inhibits_write.ensures at c.if-inhibits_write.false)
    (rw (
      c.end-place.ensures,
      c.last_name-name.ensures
          ∙ sym c.requires.0.last,
      c.joined.ensures,
      c.entry_code.ensures,
      c.unwrap_or.ensures,
      or-else,
      c.heading_named.ensures.0,
    )
    at c.make.ensures)
