-- The characters of a number of so many six-bit codes, first character highest, padding and all.
use Rattle.std.specs.Prelude.{List, [], ◌∷◌, ℕ, zero, suc, ◌+◌, ◌/◌, ◌%◌, ◌^◌}

unfoldable pub characters : ℕ → ℕ → List ℕ
characters zero x = []
characters (suc w) x = (x / 64 ^ w % 64 + 32) ∷ characters w x
