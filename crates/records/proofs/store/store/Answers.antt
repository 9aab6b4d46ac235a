-- Within the table the 32 bytes take the place of the record's; past the last record as many are copied as fit,
-- and that is none where the place is no number of the machine.
use mathlib.Core.Path.{◌≡◌, ◌∙◌}
use Prim.Native.Nat.{◌+◌, ◌*◌, ◌-◌}
use native.Mathlib.Omega.{arith}
use lib.ListN.{length}
use Rattle.paper.specs.Table.{lay}
use Rattle.records.proofs.Copies.{sets-near, sets-put}
use Rattle.records.proofs.store.store.Goals as goal

pub returns-then-room-rooms : goal.returns-then-room-rooms
unfolding lay
returns-then-room-rooms c =
    let at = c.saturating_mul-at.result in
    let e : at ≡ c.args.room.0 * 32 = omega (arith, c.saturating_mul-at.ensures, c.rooms.ensures) in
    let k : length c.args.bytes ≡ at + 32 - at = omega arith in
    rw (c.copy_from_slice.ensures.after, ← e) (sets-put c.args.table.now c.args.bytes at _ k (omega (arith, e, c.rooms.ensures)))

pub returns-else-room-rooms : goal.returns-else-room-rooms
unfolding lay
returns-else-room-rooms c = c.copy_in.ensures ∙ sets-near c.args.bytes c.args.table.now _ _ _ c.saturating_mul-at.ensures (omega arith)
