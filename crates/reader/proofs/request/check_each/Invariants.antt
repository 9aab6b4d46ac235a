-- What the words from k on get is what all get, since every word before k passed; p is where word k starts.
-- Assumes nothing.
use mathlib.Core.Path.{◌≡◌}
use Rattle.paper.specs.Line.{word}
use Rattle.paper.specs.Check.{verdict}
use Rattle.paper.specs.Request.{each, between}
use Rattle.reader.specs.Asked.{fault_check}
use Rattle.reader.proofs.request.check_each.Given as goal

abbrev pub invariant-loop-k : goal.invariant-loop-k
invariant-loop-k l = (verdict (each (fault_check l.fault) l.a (between l.a l.b l.line)) ≡ verdict (each (fault_check l.fault) l.k (between l.k l.b l.line)))
    × (l.p ≡ (word l.line l.k).start)
