-- Two numbers of eight bytes that are 0 have no byte that is not, and together they have them all.
-- One that is not 0 refutes the zeros.
use mathlib.Core.Path.{◌≡◌, sym, ◌∙◌}
use mathlib.Core.Bool.{true}
use Prim.Native.Nat.{ℕ, ◌+◌, ◌-◌}
use native.Mathlib.Nat.{add-zero}
use native.Mathlib.Omega.{arith}
use borrow.Author.Tests.{ne_eqb}
use Rattle.std.proofs.lemmas.Grind.{common_steps}
use Rattle.paper.specs.Number.{number_at}
use Rattle.paper.specs.Record.{zeros}
use Rattle.paper.specs.Table.{rec}
use Rattle.judge_laws.proofs.Shapes.{zeros-none, zeros-more, zeros-fewer, zeros-refuted}
use Rattle.judge.proofs.zeros.are_zeros_by_two.Goals as goal

pub returns-then-eight_of-eq0 : goal.returns-then-eight_of-eq0
returns-then-eight_of-eq0 c =
    let a = c.args in
    let r = rec a.t.now a.i in
    let k : ℕ = a.n - 8 in
    let e : number_at 8 r a.j ≡ 0 = sym c.eight_of.ensures ∙ c.if-eight_of-eq0.true in
    let z : zeros a.j k r ≡ true = zeros-fewer a.j k 8 r (omega arith) (zeros-more a.j 0 8 r (zeros-none a.j r) (simp add-zero e)) in
    let n : k + 8 ≡ a.n = omega arith in
    let y : number_at 8 r (a.j + k) ≡ 0 → zeros a.j a.n r ≡ true = λ q. rw (← n) (zeros-more a.j k 8 r z q) in
    grind (arith, common_steps, y, zeros-refuted a.j a.n 8 k r)

pub returns-else-eight_of-eq0 : goal.returns-else-eight_of-eq0
returns-else-eight_of-eq0 c =
    let a = c.args in
    let r = rec a.t.now a.i in
    ne_eqb _ _ c.if-eight_of-eq0.false
    ∙ sym (zeros-refuted a.j a.n 8 0 r (omega arith) (simp add-zero (λ q. c.if-eight_of-eq0.false (c.eight_of.ensures ∙ q))))
