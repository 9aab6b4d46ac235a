use mathlib.Core.Path.{◌≡◌, ap, ◌∙◌}
use Prim.Native.Nat.{ℕ}
use native.Mathlib.Omega.{arith}
use Rattle.paper.specs.Layout.{code_of, packed}
use Rattle.laws.proofs.Packing.{packed-less}
use Rattle.records.proofs.Packed.{pack-turn, pack-fits, pack-room, pack-end}
use Rattle.records.proofs.packing.pack.Goals as goal

pub loop-j-init : goal.loop-j-init
loop-j-init c = (omega arith, omega arith)

pub shifted_in-x-requires : goal.shifted_in-x-requires
shifted_in-x-requires c =
    let v = c.loop-j in
    (pack-room v.x v.j (omega arith) v.invariant.1, c.code_of.ensures.1)

pub loop-j-preserved : goal.loop-j-preserved
loop-j-preserved c =
    let o = c.code_of in
    let b = c.byte_at in
    let v = c.loop-j in
    let a = c.args in (
      rw c.shifted_in-x.ensures
          (pack-turn a.name.now v.x o.result _ v.j (omega arith) (o.ensures.0 ∙ ap (λ (z : ℕ). code_of z) b.ensures) v.invariant.0),
      rw c.shifted_in-x.ensures (pack-fits v.x o.result v.j v.invariant.1 o.ensures.1),
    )

pub returns : goal.returns
returns c =
    let v = c.loop-j in
    let a = c.args in
    let e : v.x ≡ packed a.name.now = pack-end a.name.now v.x _ v.j (omega arith) v.invariant.0 in
    (e, rw e (packed-less a.name.now))
