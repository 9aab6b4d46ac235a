-- The codes passed so far all pass, and those left are tested as the whole was.
-- The first that does not pass refutes the test.
use mathlib.Core.Path.{◌≡◌}
use Prim.Native.Nat.{◌-◌}
use Rattle.paper.specs.Name.{in_base, all}
use Rattle.judge_laws.specs.Codes.{spelled}
use Rattle.judge.proofs.name.Codes.are_in_base.Given as goal

abbrev pub invariant-loop : goal.invariant-loop
invariant-loop l = all in_base (spelled (l.end - l.counter) l.rest) ≡ all in_base (spelled l.fn.self.count l.fn.self.value)
