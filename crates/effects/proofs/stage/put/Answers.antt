-- Where no store is allowed none is made; else the one store is made, and one less is allowed.
-- That is the first `left` stores of a list of one, by its two cases.
use native.Mathlib.Omega.{arith}
use Rattle.effects.proofs.Stages.{made-stopped, made_one}
use Rattle.effects.proofs.stage.put.Goals as goal

pub returns-then-left-eq0 : goal.returns-then-left-eq0
returns-then-left-eq0 c = made-stopped c.args.table.now c.args.left _ (omega arith)

pub returns : goal.returns
returns c = made_one _ _ c.args.left _ _ (omega arith) c.store.ensures
