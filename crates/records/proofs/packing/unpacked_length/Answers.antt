use mathlib.Core.Path.{◌≡◌, refl, sym, ◌∙◌}
use Prim.Native.Nat.{◌+◌, ◌-◌}
use native.Mathlib.Omega.{arith}
use Rattle.records.proofs.Packed.{length-turn, length-here, length_none}
use Rattle.records.proofs.packing.unpacked_length.Goals as goal

pub loop-n-init : goal.loop-n-init
loop-n-init c = refl

pub returns-then-last_code-ne0 : goal.returns-then-last_code-ne0
returns-then-last_code-ne0 c =
    let d = c.last_code in
    let v = c.loop-n in
    let e : v.n - 1 + 1 ≡ v.n = omega arith in
    (e ∙ length-here v.rest v.n _ (omega arith) v.invariant (λ z. c.if-last_code-ne0.true (d.ensures.0 ∙ z)), omega arith)

pub loop-n-preserved : goal.loop-n-preserved
loop-n-preserved c =
    let d = c.last_code in
    let v = c.loop-n in
    rw c.shifted_out-rest.ensures (length-turn v.rest v.n _ (omega arith) v.invariant (sym d.ensures.0 ∙ c.if-last_code-ne0.false))

pub returns : goal.returns
returns c =
    let v = c.loop-n in
    (length_none v.rest v.n _ (omega arith) v.invariant, omega arith)
