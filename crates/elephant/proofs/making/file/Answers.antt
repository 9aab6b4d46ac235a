-- The free records are listed before any store, and the first of them takes the heading, which the entry names.
-- So the making is the filing of the last name.
use Prim.Native.Nat.{ℕ, ◌+◌}
use native.Mathlib.Omega.{arith}
use Rattle.elephant.specs.Filing.{fresh}
use Rattle.effects.proofs.Papers.{free-room}
use Rattle.elephant.proofs.Walking.{free-small, free-length}
use Rattle.elephant.proofs.making.file.Goals as goal

pub slice_bounds-room_at-end : goal.slice_bounds-room_at-end
slice_bounds-room_at-end c =
    rw c.free_rooms.ensures (free-length c.args.table.now _)

pub make-requires : goal.make-requires
make-requires c =
    let p = c.requires.0 in
    let h = c.requires.1 in
    let t = c.args.table.now in
    let k : ℕ = c.blocks-most.result.0 + 2 in
    record {
      size = p.size;
      sound = p.sound;
      free = rw c.blocks-most.ensures at c.free_rooms.ensures;
      short = rw c.last_name-name.ensures p.short;
      few = p.few;
      small = rw (c.room_at.ensures, c.free_rooms.ensures) (free-small t k (omega arith));
      held = h.held;
      names = fresh h.type h.lev h.code h.life h.size (rw h.is)
          (rw (c.room_at.ensures, c.free_rooms.ensures) (free-room t k 0 p.size (omega arith) (omega arith)));
    }

pub returns : goal.returns
returns c =
    rw (
      c.end.ensures,
      c.own.ensures,
      c.last_name-name.ensures,
      c.room_at.ensures,
      c.free_rooms.ensures,
      free-room c.args.table.now (c.blocks-most.result.0 + 2) 0 c.requires.0.size (omega arith) (omega arith),
    )
    at c.make.ensures
