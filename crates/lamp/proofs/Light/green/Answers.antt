-- The five numbers are those of the definition; sheet 0 is shown as it is.
-- Nothing else is to be shown.
use mathlib.Core.Path.{refl}
use Rattle.lamp.specs.Shown.{sheet_shown}
use Rattle.lamp.proofs.Light.green.Goals as goal

pub returns : goal.returns
unfolding sheet_shown
returns c = refl
