-- The parts of a declaration, for the paper's: the numbers are the paper's in each case.
use Rattle.std.specs.Prelude.{Bool, cond, Option, Some, None}
use Rattle.paper.specs.Declaration as paper
use Rattle.paper.specs.Declaration.{Declared, right, wrong}
use Rattle.records.specs.Part.{shown_part, meant_part}
use Rattle.declarations.specs.declared.declaration.Parts.{Parts}

-- from the paper's declaration to the one here
abbrev pub shown_parts : paper.Parts → Parts
shown_parts p =
    record {
      kind = shown_part p.type;
      lifetime = shown_part p.lifetime;
      level = shown_part p.level;
      digit = shown_part p.code;
    }

abbrev pub shown_declared : Declared → Option Parts
shown_declared (right p) = Some (shown_parts p)
shown_declared wrong = None

-- and back
abbrev pub paper_parts : Parts → paper.Parts
paper_parts p =
    record {
      type = meant_part p.kind;
      lifetime = meant_part p.lifetime;
      level = meant_part p.level;
      code = meant_part p.digit;
    }

-- the declaration, if its parts pass
abbrev pub taken : (paper.Parts → Bool) → Option Parts → Option Parts
taken test (Some p) = cond (test (paper_parts p)) (Some p) None
taken test None = None
