-- The program, from document 01: what it keeps, and what each byte of its input makes of it.
use Rattle.std.specs.Prelude.{Bool, true, false, ◌&&◌, ◌||◌, not, cond, List, [], ◌∷◌, ◌++◌, ℕ, eqb, ltb, length}
use Rattle.paper.specs.Layout.{boxed}
use Rattle.paper.specs.Table.{sized}
use Rattle.paper.specs.Sound.{sound}
use Rattle.paper.specs.Name.{alone}
use Rattle.paper.specs.Line.{word}
use Rattle.paper.specs.Answer.{Outcome}
use Rattle.paper.specs.Index.{is_true, Kept, keeping}

-- the table and its index, the reply buffer, the line that is being read or, once it has ended, asks for its text; and that text
pub record Box : Type 0 where
  pub table : List ℕ
  pub index : List ℕ
  pub reply : List ℕ
  pub line : List ℕ
  pub asked : Bool
  pub text : List ℕ

-- the program begins with a sound table and its true index
abbrev pub begins_true : (table index : List ℕ) → Bool
begins_true t d = (sized t && sound boxed t) && is_true t d

-- at the start of a line
unfoldable pub between : (table index reply : List ℕ) → Box
between t d r = record { table = t; index = d; reply = r; line = []; asked = false; text = [] }

-- "acts for user 1 with k 65,535"
unfoldable pub kept : Box → Kept
kept x = keeping x.table x.index x.line x.text x.reply 1 65535

abbrev pub outcome : Box → Outcome
outcome x = (kept x).outcome

-- the request is answered, and the next byte starts a line
unfoldable pub answered : Box → Box
answered x = between (outcome x).table (kept x).index (outcome x).reply

-- a byte of the line, or of its text
unfoldable pub grown : Box → ℕ → Box
grown x b =
    cond x.asked
    (record { table = x.table; index = x.index; reply = x.reply; line = x.line; asked = true; text = x.text ++ b ∷ [] })
    (record { table = x.table; index = x.index; reply = x.reply; line = x.line ++ b ∷ []; asked = false; text = x.text })

-- "The first word is the function": it is WRS or, of document 02, `WRS*`
unfoldable pub takes_text : List ℕ → Bool
takes_text line = alone (87 ∷ 82 ∷ 83 ∷ []) (word line 0).names || alone (87 ∷ 82 ∷ 83 ∷ 42 ∷ []) (word line 0).names

-- the end of a line: "takes the line after a WRS, refused or not, as its text", and that after a `WRS*`
unfoldable pub ended : Box → Box
ended x =
    cond (not x.asked && takes_text x.line)
    (record { table = x.table; index = x.index; reply = x.reply; line = x.line; asked = true; text = x.text })
    (answered x)

-- one byte of the input
unfoldable pub stepped : Box → ℕ → Box
stepped x b = cond (eqb b 10) (ended x) (grown x b)

unfoldable pub fed : Box → List ℕ → Box
fed x [] = x
fed x (b ∷ bs) = fed (stepped x b) bs

-- the end of the input: it ends a line that has begun; a WRS or a `WRS*` with no line after it has an empty text
unfoldable pub finished : Box → Box
finished x = cond (x.asked || ltb 0 (length x.line)) (answered x) x
