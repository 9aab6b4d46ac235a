use mathlib.Core.Path.{◌≡◌, ap, ◌∙◌}
use Prim.Native.Nat.{ℕ, ◌-◌, ◌%◌}
use native.Mathlib.Omega.{arith}
use Rattle.paper.specs.Table.{room}
use Rattle.scans.proofs.Free.{first-room, walk-rooms}
use Rattle.effects.proofs.Places.{front-start, front-more, front-all, room_most}
use Rattle.effects.proofs.rooms.free_rooms.Goals as goal

pub loop-m-init : goal.loop-m-init
loop-m-init c =
    (front-start (λ k. room c.args.table.now k % 65536) 0 1002, c.next_free-next.ensures ∙ first-room _)

pub overflow_add-next : goal.overflow_add-next
overflow_add-next c = omega (arith, room_most c.args.table.now c.loop-m.m)

pub loop-m-preserved : goal.loop-m-preserved
loop-m-preserved c =
    let t = c.args.table.now in
    let v : c.short.result ≡ room t c.loop-m.m % 65536 = c.short.ensures ∙ ap (λ (n : ℕ). n % 65536) c.loop-m.invariant.1 in (
      rw c.loop-m.invariant.0 (front-more (λ k. room t k % 65536) 0 1002 c.loop-m.m _ (omega arith) v),
      c.next_free-next-in-loop-m.ensures ∙ rw c.loop-m.invariant.1 (walk-rooms t c.loop-m.m),
    )

pub returns : goal.returns
returns c =
    let k : ℕ = c.args.most.0 in
    let e : c.loop-m.m ≡ k - (k - 1002) = omega arith in
    c.loop-m.invariant.0 ∙ rw e (front-all (λ m. room c.args.table.now m % 65536) 0 1002 k)
