use mathlib.Core.Bool.{true, false}
use mathlib.Core.Path.{◌≡◌, sym, ◌∙◌}
use Prim.Native.Nat.{ℕ, ◌+◌, ◌-◌, ◌%◌}
use native.Mathlib.Omega.{arith}
use Rattle.paper.specs.Name.{in_base}
use Rattle.judge_laws.proofs.Names.{all-stops, all-goes, all_none}
use Rattle.judge.proofs.name.Codes.are_in_base.Goals as goal

pub loop-init : goal.loop-init
loop-init c = let z : c.args.self.count - 0 ≡ c.args.self.count = omega arith in rw z

pub returns-then-not-is_in_base : goal.returns-then-not-is_in_base
returns-then-not-is_in_base c =
    let e : in_base (c.loop.rest % 64 + 32) ≡ false = sym c.is_in_base.ensures ∙ c.if-not-is_in_base.true in
    let left : ℕ = c.args.self.count - c.loop.counter in
    sym (sym c.loop.invariant ∙ all-stops in_base left c.loop.rest (omega arith) e)

pub loop-preserved : goal.loop-preserved
loop-preserved c =
    let e : in_base (c.loop.rest % 64 + 32) ≡ true = sym c.is_in_base.ensures ∙ c.if-not-is_in_base.false in
    let left : ℕ = c.args.self.count - c.loop.counter in
    let n : c.args.self.count - (c.loop.counter + 1) ≡ left - 1 = omega arith in
    rw n (sym (all-goes in_base left c.loop.rest (omega arith) e) ∙ c.loop.invariant)

pub returns : goal.returns
returns c =
    let z : c.args.self.count - c.loop.counter ≡ 0 = omega arith in
    sym (sym c.loop.invariant ∙ rw z (all_none in_base c.loop.rest))
