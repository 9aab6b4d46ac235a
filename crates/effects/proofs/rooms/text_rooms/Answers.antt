use mathlib.Core.Bool.{true}
use mathlib.Core.Path.{◌≡◌, sym, ◌∙◌}
use Prim.Native.Nat.{◌%◌, ◌≤◌}
use native.Mathlib.Omega.{arith}
use Rattle.paper.specs.Table.{sized, rooms}
use Rattle.effects.proofs.Places.{sized-most, placed-start, placed-full, placed_end, placed-none}
use Rattle.effects.proofs.rooms.text_rooms.Goals as goal

pub returns-then-not-is_sized : goal.returns-then-not-is_sized
returns-then-not-is_sized c =
    let e : c.short-none.result ≡ rooms c.args.table.now % 65536 = rw c.rooms.ensures at c.short-none.ensures in
    placed-none c.args.table.now _ _ _ (sym c.is_sized.ensures ∙ c.if-not-is_sized.true) e

pub loop-i-init : goal.loop-i-init
loop-i-init c =
    let t = c.args.table.now in
    let m : rooms t ≤ 2048 = sized-most t (sym c.is_sized.ensures ∙ c.if-not-is_sized.false) in
    let e : c.short-none.result ≡ rooms t = omega arith in
    placed-start _ _ _ _ e (omega arith)

pub returns-then-left-eq0 : goal.returns-then-left-eq0
returns-then-left-eq0 c =
    let fit : sized c.args.table.now ≡ true = sym c.is_sized.ensures ∙ c.if-not-is_sized.false in
    placed-full _ _ _ _ _ _ c.loop-i.invariant c.args.most.0 (omega arith) fit (omega arith) (omega arith)

pub place_text-left-requires : goal.place_text-left-requires
place_text-left-requires c =
    let t = c.args.table.now in
    let m : rooms t ≤ 2048 = sized-most t (sym c.is_sized.ensures ∙ c.if-not-is_sized.false) in
    (omega arith, omega arith, omega arith, c.loop-i.invariant)

pub returns : goal.returns
returns c =
    let fit : sized c.args.table.now ≡ true = sym c.is_sized.ensures ∙ c.if-not-is_sized.false in
    placed_end _ _ _ _ _ _ c.loop-i.invariant c.args.most.0 (omega arith) fit (omega arith)
