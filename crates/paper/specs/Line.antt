-- "Words are separated by blanks; blanks beside a colon do not count." Each byte keeps its place in the lent line, so that a
-- word and its names are stretches of the line itself.
use Rattle.std.specs.Prelude.{Bool, false, ◌&&◌, cond, List, [], ◌∷◌, map, ℕ, suc, length, get_or, eqb, leb}
use Rattle.paper.specs.Name.{all}

-- "At most 256 bytes, each 32..95."
abbrev pub in_line : ℕ → Bool
in_line b = leb 32 b && leb b 95

unfoldable pub legal_line : List ℕ → Bool
legal_line line = leb (length line) 256 && all in_line line

-- a byte of the lent line, and its place there
pub record Spot : Type 0 where
  pub at : ℕ
  pub byte : ℕ

-- the bytes of s, whose first stands at place p
unfoldable pub placed : ℕ → List ℕ → List Spot
placed p [] = []
placed p (b ∷ s) = record { at = p; byte = b } ∷ placed (suc p) s

abbrev pub is_blank : ℕ → Bool
is_blank b = eqb b 32

abbrev pub is_colon : ℕ → Bool
is_colon b = eqb b 58

abbrev pub blank_spot : Spot → Bool
blank_spot s = is_blank s.byte

abbrev pub colon_spot : Spot → Bool
colon_spot s = is_colon s.byte

-- what follows the leading blanks
unfoldable pub skipped : List Spot → List Spot
skipped [] = []
skipped (b ∷ s) = cond (blank_spot b) (skipped s) (b ∷ s)

unfoldable pub at_colon : List Spot → Bool
at_colon [] = false
at_colon (b ∷ s) = colon_spot b

-- one byte before a line that is closed already: no blank stays after a colon, and none before one
unfoldable pub close : Spot → List Spot → List Spot
close b s = cond (colon_spot b) (b ∷ skipped s) (cond (blank_spot b && at_colon s) s (b ∷ s))

-- "blanks beside a colon do not count": the line without them
unfoldable pub closed : List Spot → List Spot
closed [] = []
closed (b ∷ s) = close b (closed s)

-- the pieces between the marks: one more than there are marks
unfoldable pub grow : Spot → List (List Spot) → List (List Spot)
grow b [] = (b ∷ []) ∷ []
grow b (w ∷ ws) = (b ∷ w) ∷ ws

unfoldable pub split : (Spot → Bool) → List Spot → List (List Spot)
split mark [] = [] ∷ []
split mark (b ∷ s) = cond (mark b) ([] ∷ split mark s) (grow b (split mark s))

-- a word: where it starts in the lent line, and its names, which colons join
pub record Word : Type 0 where
  pub start : ℕ
  pub names : List (List ℕ)

abbrev pub bytes_in : List Spot → List ℕ
bytes_in = map (λ b. b.byte)

abbrev pub names_in : List Spot → List (List ℕ)
names_in s = map bytes_in (split colon_spot s)

-- the words that the pieces between blanks are: an empty piece is none
unfoldable pub solid : List (List Spot) → List Word
solid [] = []
solid ([] ∷ ws) = solid ws
solid ((b ∷ s) ∷ ws) = record { start = b.at; names = names_in (b ∷ s) } ∷ solid ws

-- the words of a line
unfoldable pub words : List ℕ → List Word
words line = solid (split blank_spot (closed (placed 0 line)))

-- word k of the line, from 0; past the last one, an empty word at the line's end
unfoldable pub word : List ℕ → ℕ → Word
word line k = get_or (words line) k (record { start = length line; names = [] ∷ [] })
