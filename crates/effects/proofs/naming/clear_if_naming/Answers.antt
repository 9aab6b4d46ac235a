-- A record that does not name the heading has no store, and one that does has one.
-- These are the two cases of the stage.
use mathlib.Core.Path.{sym, ◌∙◌}
use Rattle.paper.specs.Record.{blank}
use Rattle.effects.proofs.Namings.{made-unnaming, made-naming}
use Rattle.effects.proofs.naming.clear_if_naming.Goals as goal

pub returns-then-names : goal.returns-then-names
unfolding blank
returns-then-names c =
    made-naming _ _ _ _ _ _ (sym c.names.ensures ∙ c.if-names.true) c.put.ensures

pub returns-else-names : goal.returns-else-names
returns-else-names c = made-unnaming _ _ _ _ (sym c.names.ensures ∙ c.if-names.false)
