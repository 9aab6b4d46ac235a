-- After i turns the headings below i are corrected as far as the stop number allows, and all of them are counted.
-- Each turn adds one record, which those before left as it was; at the end these are all records.
use Prim.Native.Nat.{◌≤◌}
use Rattle.paper.specs.Count.{untrue}
use Rattle.paper.specs.Store.{fills}
use Rattle.effects.specs.Counted.{Counted}
use Rattle.effects.proofs.Corrected.{corrected}
use Rattle.effects.proofs.recount.correct_all.Given as goal

abbrev pub invariant-loop-i : goal.invariant-loop-i
invariant-loop-i l = Counted l.initial.table l.table l.stop 0 l.needed (fills (untrue l.initial.table) (corrected l.initial.table) l.i)
    × (l.needed ≤ l.i)
