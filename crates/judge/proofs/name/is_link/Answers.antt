-- The ten numbers that have ones alone are those of names of one to ten characters.
-- No other number is one less than a power of 2 up to the tenth.
use mathlib.Core.Bool.{true}
use mathlib.Core.Logic.{⊎_elim}
use mathlib.Core.Path.{◌≡◌, sym}
use Prim.Native.Nat.{ℕ, ◌+◌, ◌^◌, ◌≤◌}
use native.Mathlib.Omega.{arith}
use Rattle.paper.specs.Layout.{unpacked}
use Rattle.paper.specs.Name.{link_name}
use Rattle.judge_laws.specs.Codes.{class_bits}
use Rattle.judge_laws.proofs.Names.{link-bits, link-other, ones}
use Rattle.judge.proofs.name.is_link.Goals as goal

pub returns-in-1 : goal.returns-in-1
returns-in-1 c =
    let x = c.args.x in
    let s = c.class_sum.result in
    let w : s ≡ class_bits 10 x = c.class_sum.ensures in
    let f : (n : ℕ) → 1 ≤ n → n ≤ 10 → s + 1 ≡ 2 ^ n → true ≡ link_name (unpacked x) = λ n a b e. sym (link-bits x n a b (rw (← w) e)) in
    ⊎_elim (λ (e : s ≡ 1). f 1 (omega arith) (omega arith) (omega arith))
    (⊎_elim (λ (e : s ≡ 3). f 2 (omega arith) (omega arith) (omega arith))
    (⊎_elim (λ (e : s ≡ 7). f 3 (omega arith) (omega arith) (omega arith))
    (⊎_elim (λ (e : s ≡ 15). f 4 (omega arith) (omega arith) (omega arith))
    (⊎_elim (λ (e : s ≡ 31). f 5 (omega arith) (omega arith) (omega arith))
    (⊎_elim (λ (e : s ≡ 63). f 6 (omega arith) (omega arith) (omega arith))
    (⊎_elim (λ (e : s ≡ 127). f 7 (omega arith) (omega arith) (omega arith))
    (⊎_elim (λ (e : s ≡ 255). f 8 (omega arith) (omega arith) (omega arith))
    (⊎_elim (λ (e : s ≡ 511). f 9 (omega arith) (omega arith) (omega arith))
    (λ (e : s ≡ 1023). f 10 (omega arith) (omega arith) (omega arith)))))))))) c.in-1.is

pub returns-in_default : goal.returns-in_default
returns-in_default c =
    let x = c.args.x in
    let s = c.class_sum.result in
    let w : s ≡ class_bits 10 x = c.class_sum.ensures in
    sym (link-other x (λ n a b e. c.in_default.in_default-own.rest.1 (ones s n a b (rw w e))))
