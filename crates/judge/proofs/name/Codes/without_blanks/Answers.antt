use mathlib.Core.Path.{◌≡◌, refl, sym, ◌∙◌}
use Prim.Native.Nat.{◌%◌}
use native.Mathlib.Omega.{arith}
use Rattle.judge_laws.proofs.Names.{blank-off, blank-room, blank-less, spelled_out}
use Rattle.judge.proofs.name.Codes.without_blanks.Goals as goal

pub loop-value-init : goal.loop-value-init
loop-value-init c = (refl, omega arith, omega arith, omega arith)

pub overflow_sub-count : goal.overflow_sub-count
overflow_sub-count c = blank-room c.loop-value.count c.loop-value.value c.loop-value.invariant.1 c.loop-value.invariant.2

pub loop-value-smaller : goal.loop-value-smaller
loop-value-smaller c = omega (arith, blank-room c.loop-value.count c.loop-value.value c.loop-value.invariant.1 c.loop-value.invariant.2)

pub loop-value-preserved : goal.loop-value-preserved
loop-value-preserved c =
    let l = c.loop-value in
    let s = blank-room l.count l.value l.invariant.1 l.invariant.2 in
    let e : l.value % 64 ≡ 0 = omega arith in
    (sym (blank-off l.count l.value s e) ∙ l.invariant.0, omega arith, blank-less l.count l.value s l.invariant.2, omega arith)

pub returns : goal.returns
returns c =
    let l = c.loop-value in
    let s = blank-room l.count l.value l.invariant.1 l.invariant.2 in
    (spelled_out l.count l.value s (λ (e : l.value % 64 ≡ 0). let z : ⊥ = omega arith in z) ∙ l.invariant.0, s, l.invariant.3)
