-- "both octal, at most six digits, in bytes; a dash or nothing means 0 and to the end": the numbers of RDS.
use Rattle.std.specs.Prelude.{Bool, true, false, ◌&&◌, cond, List, [], ◌∷◌, ℕ, leb, length}
use Rattle.paper.specs.Name.{all, dash, counting}
use Rattle.paper.specs.Declaration.{Part, given, not_given}

-- an argument is a number, given or not given, or none
pub data Octal : Type 0 where
  number : Part → Octal
  no_number : Octal

abbrev pub in_octal : ℕ → Bool
in_octal b = leb 48 b && leb b 55

-- "octal, at most six digits"
unfoldable pub digits : List ℕ → Octal
digits n = cond (leb 1 (length n) && leb (length n) 6 && all in_octal n) (number (given (counting 8 0 n))) no_number

-- a number has no colon
abbrev pub one_number : List (List ℕ) → Octal
one_number [] = no_number
one_number (n ∷ []) = digits n
one_number (n ∷ m ∷ ns) = no_number

-- the number that an argument is: "a dash or nothing" is not given
unfoldable pub octal : List (List ℕ) → Octal
octal ns = cond (dash ns) (number not_given) (one_number ns)

-- what an argument gives
abbrev pub part_of : Octal → Part
part_of (number p) = p
part_of no_number = not_given

abbrev pub is_number : Octal → Bool
is_number (number p) = true
is_number no_number = false

-- "A count of 0 is refused, as the manual wants it nonzero."
abbrev pub some_bytes : Part → Bool
some_bytes (given n) = leb 1 n
some_bytes not_given = true

abbrev pub is_count : Octal → Bool
is_count (number p) = some_bytes p
is_count no_number = false
