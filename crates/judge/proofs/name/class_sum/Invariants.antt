-- The sum has the classes of the codes read, the lowest first, and the rest has the codes above them.
-- Ten classes are no more than 2,046.
use mathlib.Core.Path.{◌≡◌}
use Prim.Native.Nat.{◌/◌, ◌^◌, ◌≤◌}
use Rattle.judge_laws.specs.Codes.{class_bits}
use Rattle.judge.proofs.name.class_sum.Given as goal

abbrev pub invariant-loop : goal.invariant-loop
invariant-loop l = (l.sum ≡ class_bits l.counter l.x) × (l.rest ≡ l.x / 64 ^ l.counter) × (l.sum ≤ 2046)
