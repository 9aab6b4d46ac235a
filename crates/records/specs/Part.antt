-- What is given or not given, as an `Option` has it and as the paper does: the numbers are the paper's in both.
use Rattle.std.specs.Prelude.{Option, Some, None, ℕ}
use Rattle.paper.specs.Declaration as paper
use Rattle.paper.specs.Declaration.{given, not_given}

-- from the paper's part to the `Option`
abbrev pub shown_part : paper.Part → Option ℕ
shown_part (given n) = Some n
shown_part not_given = None

-- and back
abbrev pub meant_part : Option ℕ → paper.Part
meant_part (Some n) = given n
meant_part None = not_given
