-- What is left of the texts after those of the first sheets: a sheet whose text is longer is the first that misses some.
-- Where every text was there, none is missing.
use Rattle.lamp.proofs.Refusals.{Left}
use Rattle.lamp.proofs.refusal.first_missing.Given as goal

abbrev pub invariant-loop-i : goal.invariant-loop-i
invariant-loop-i l = Left l.sheets l.texts l.i l.left
