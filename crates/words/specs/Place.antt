-- Names and words by their places in the lent line. `word-names` and `word_next` of proofs/Words.antt say that these are the
-- words of `Line`; here a name is a stretch of the line, found from the place where it starts.
use Rattle.std.specs.Prelude.{Bool, ◌&&◌, not, cond, List, [], ◌∷◌, ℕ, zero, suc, ◌+◌, ◌-◌, length, get_or, take, drop}
use Rattle.paper.specs.Line.{Spot, placed, is_blank, is_colon, blank_spot, closed, split, names_in, Word, solid}

-- how many bytes at the front pass the test
unfoldable pub lead : (ℕ → Bool) → List ℕ → ℕ
lead test [] = 0
lead test (b ∷ s) = cond (test b) (suc (lead test s)) 0

-- the first place from p on whose byte does not pass, or the end
unfoldable pub reach : (ℕ → Bool) → List ℕ → ℕ → ℕ
reach test line p = p + lead test (drop p line)

-- a byte that neither ends a name nor joins two
abbrev pub is_plain : ℕ → Bool
is_plain b = not (is_blank b) && not (is_colon b)

-- the name that starts at p ends here
abbrev pub name_end : List ℕ → ℕ → ℕ
name_end line p = reach is_plain line p

-- past the blanks after it
abbrev pub gap_end : List ℕ → ℕ → ℕ
gap_end line p = reach is_blank line (name_end line p)

-- a colon joins it to another name
abbrev pub joined : List ℕ → ℕ → Bool
joined line p = is_colon (get_or line (gap_end line p) 0)

-- which starts here
abbrev pub next_name : List ℕ → ℕ → ℕ
next_name line p = reach is_blank line (gap_end line p + 1)

-- "A name handed out by the request reader is that stretch of the lent line itself"
abbrev pub cut : List ℕ → ℕ → List ℕ
cut line p = take (name_end line p - p) (drop p line)

-- the one name that a word is; of several, nothing
abbrev pub lone_of : List (List ℕ) → List ℕ
lone_of [] = []
lone_of (n ∷ []) = n
lone_of (n ∷ m ∷ ns) = []

-- the line from p on without the blanks beside its colons, and its pieces between blanks
unfoldable pub closed_from : List ℕ → ℕ → List Spot
closed_from line p = closed (placed p (drop p line))

unfoldable pub pieces : List ℕ → ℕ → List (List Spot)
pieces line p = split blank_spot (closed_from line p)

abbrev pub head : List (List Spot) → List Spot
head [] = []
head (w ∷ ws) = w

abbrev pub tail : List (List Spot) → List (List Spot)
tail [] = []
tail (w ∷ ws) = ws

-- the names of the word at p, the words after it, and the words from p on
unfoldable pub names_from : List ℕ → ℕ → List (List ℕ)
names_from line p = names_in (head (pieces line p))

-- the word at p
abbrev pub word_at : List ℕ → ℕ → Word
word_at line p = record { start = p; names = names_from line p }

unfoldable pub rest_from : List ℕ → ℕ → List Word
rest_from line p = solid (tail (pieces line p))

unfoldable pub words_from : List ℕ → ℕ → List Word
words_from line p = solid (pieces line p)

-- where the first of some words starts, or the line's end
abbrev pub start_of : List ℕ → List Word → ℕ
start_of line [] = length line
start_of line (w ∷ ws) = w.start

-- where the word after the one at p starts, or the line's end
unfoldable pub next_word : List ℕ → ℕ → ℕ
next_word line p = start_of line (rest_from line p)

-- where name j of the word at p starts
unfoldable pub name_place : List ℕ → ℕ → ℕ → ℕ
name_place line p zero = p
name_place line p (suc j) = name_place line (next_name line p) j
