-- The six-bit codes of a number, spelled out: a character for each, whatever it is.
use Rattle.std.specs.Prelude.{Bool, ◌||◌, cond, List, [], ◌∷◌, ◌≡◌, ℕ, zero, suc, ◌+◌, ◌*◌, ◌/◌, ◌%◌, ◌^◌, ◌<◌, eqb, get_or, length}
use Rattle.paper.specs.Layout.{packed}
use Rattle.paper.specs.Name.{in_name, dot_r, dot_w, dot_g, dot_t}

-- the characters of w codes, the highest first
unfoldable pub spelled : ℕ → ℕ → List ℕ
spelled zero x = []
spelled (suc w) x = (x / 64 ^ w % 64 + 32) ∷ spelled w x

-- the class of a code: 1 if its character may be in a name, 0 if it is a blank, and 2 if it is neither
abbrev pub class_of : ℕ → ℕ
class_of c = cond (in_name (c + 32)) 1 (cond (eqb c 0) 0 2)

pub record Classed (class : List ℕ) : Type 0 where
  pub at : (c : ℕ) → c < 64 → get_or class c 0 ≡ class_of c
  pub long : length class ≡ 64

-- the classes of w codes as one number, the highest code's worth 1 and each other's twice that of the one above it
unfoldable pub class_bits : ℕ → ℕ → ℕ
class_bits zero x = 0
class_bits (suc w) x = class_bits w x * 2 + class_of (x / 64 ^ w % 64)

-- the number of `.R`, `.W`, `.G` or `.T`
unfoldable pub area : ℕ → Bool
area x = eqb x (packed dot_r) || eqb x (packed dot_w) || eqb x (packed dot_g) || eqb x (packed dot_t)
