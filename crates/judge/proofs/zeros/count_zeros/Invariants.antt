-- The bytes passed so far are zero: four at once where their number is 0.
-- The first four that are not leave the rest to the caller.
use mathlib.Core.Bool.{true}
use mathlib.Core.Path.{◌≡◌}
use Prim.Native.Nat.{◌*◌}
use Rattle.paper.specs.Record.{zeros}
use Rattle.paper.specs.Table.{rec}
use Rattle.judge.proofs.zeros.count_zeros.Given as goal

abbrev pub invariant-loop-k : goal.invariant-loop-k
invariant-loop-k l = zeros l.j (4 * l.k) (rec l.t l.i) ≡ true
