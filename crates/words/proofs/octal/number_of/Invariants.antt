-- The number so far and the digits left make the whole number,
-- as they do at the start.
use mathlib.Core.Path.{◌≡◌}
use lib.ListN.{drop}
use Rattle.paper.specs.Name.{counting}
use Rattle.words.proofs.octal.number_of.Given as goal

abbrev pub invariant-loop-b : goal.invariant-loop-b
invariant-loop-b l = counting l.base l.k (drop l.b-index l.digits) ≡ counting l.base 0 l.digits
