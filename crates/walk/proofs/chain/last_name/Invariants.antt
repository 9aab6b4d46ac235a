-- The last name of what is left is the last of the chain: a word of one name ends it, and the supplied `.W` is never the last.
-- The measure is what is left of the line, in which every joining colon stands.
use mathlib.Core.Path.{◌≡◌}
use Prim.Native.Nat.{◌-◌}
use lib.ListN.{length}
use Rattle.paper.specs.Name.{chain}
use Rattle.paper.specs.Walk.{last_name}
use Rattle.words.specs.Place.{names_from}
use Rattle.walk.proofs.chain.last_name.Given as goal

abbrev pub invariant-loop-q : goal.invariant-loop-q
invariant-loop-q l = last_name (names_from l.line l.i) ≡ last_name (chain (names_from l.line l.p))

abbrev pub decreases-loop-q : goal.decreases-loop-q
decreases-loop-q l = length l.line - l.i
