-- The answer of the code, for the paper's: the two numbers of it that are not 0 by themselves.
use Rattle.paper.specs.Answer as paper
use Rattle.mending.specs.declared.Mended.{Mended}

abbrev pub mend_shown : paper.Answer → Mended
mend_shown a = record { number = a.number; stores = a.stores }
