use mathlib.Core.Path.{◌≡◌, sym, ap, ◌∙◌}
use Prim.Native.Nat.{ℕ, ◌+◌, ◌*◌, ◌/◌, ◌%◌, ◌^◌}
use native.Mathlib.Omega.{arith}
use native.Mathlib.Nat.{pow-zero, div-one}
use Rattle.judge_laws.specs.Codes.{class_of, class_bits}
use Rattle.judge_laws.proofs.Names.{bits_none, bits-more, bits_most, rest_more, class-most}
use Rattle.judge.proofs.name.class_sum.Goals as goal

pub loop-init : goal.loop-init
loop-init c =
    let x = c.args.x in
    (sym (bits_none x), sym (rw pow-zero (div-one x)), omega arith)

pub overflow_add-sum : goal.overflow_add-sum
overflow_add-sum c =
    let b = c.requires.at (c.loop.rest % 64) (omega arith) in
    omega (arith, class-most (c.loop.rest % 64))

pub loop-preserved : goal.loop-preserved
loop-preserved c =
    let x = c.args.x in
    let e : c.from.result ≡ class_of (x / 64 ^ c.loop.counter % 64) = c.from.ensures ∙ c.requires.at (c.loop.rest % 64) (omega arith)
    ∙ ap (λ (r : ℕ). class_of (r % 64)) c.loop.invariant.1 in
    let b : class_bits (c.loop.counter + 1) x ≡ class_bits c.loop.counter x * 2 + class_of (x / 64 ^ c.loop.counter % 64) = bits-more x c.loop.counter in
    let s : c.loop.sum * 2 + c.from.result ≡ class_bits (c.loop.counter + 1) x = omega arith in
    (s, rw c.loop.invariant.1 (rest_more x c.loop.counter), omega (arith, bits_most x (c.loop.counter + 1) (omega arith)))

pub returns : goal.returns
returns c =
    let e : c.loop.counter ≡ 10 = omega arith in
    rw e at c.loop.invariant.0
