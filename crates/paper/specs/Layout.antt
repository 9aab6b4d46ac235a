-- How a name lies in an entry, bytes 9-31 of its record: what the definitions ask of a layout, document 01's own, and document 02's. Every
-- definition that looks at a name in a record, or lays one there, takes the layout first.
use Rattle.std.specs.Prelude.{Bool, true, ◌&&◌, cond, List, [], ◌∷◌, ◌++◌, ℕ, zero, suc, ◌+◌, ◌-◌, ◌*◌, ◌/◌, ◌%◌, ◌^◌, length, take, drop, replicate, eqb, leb, ltb}
use Rattle.paper.specs.Number.{number_at, bytes_of}
use Rattle.paper.specs.Record.{byte, zeros, padded}

pub record Layout : Type 0 where
  -- the name that an entry bears
  pub borne : List ℕ → List ℕ
  -- bytes 9-31 of an entry that bears this name
  pub field : List ℕ → List ℕ
  -- an entry is "as above" in these bytes
  pub as_above : List ℕ → Bool
  -- and what the name leaves of its bytes is zero
  pub padded : List ℕ → Bool

abbrev pub name_of : Layout → List ℕ → List ℕ
name_of L r = L.borne r

abbrev pub name_field : Layout → List ℕ → List ℕ
name_field L name = L.field name

-- an entry of this code, directory, heading named, user and name
unfoldable pub entry_record : Layout → ℕ → ℕ → ℕ → ℕ → List ℕ → List ℕ
entry_record L code holder heading user name =
    2 ∷ code ∷ bytes_of 2 holder ++ bytes_of 2 heading ++ bytes_of 3 user ++ name_field L name

-- document 01: "9 name length; 10-19 name"
abbrev pub name_length : List ℕ → ℕ
name_length r = byte r 9

unfoldable pub old_name : List ℕ → List ℕ
old_name r = take (name_length r) (take 10 (drop 10 r))

-- the name length and the name, and the bytes after them
unfoldable pub old_field : List ℕ → List ℕ
old_field name = length name ∷ padded 10 name ++ replicate 12 0

-- a name has at most 10 characters, and "bytes not named are zero"
abbrev pub old_as_above : List ℕ → Bool
old_as_above r = leb (name_length r) 10 && zeros 20 12 r

-- "as are name bytes past the length"
abbrev pub old_padded : List ℕ → Bool
old_padded r = zeros (10 + name_length r) (10 - name_length r) r

abbrev pub old : Layout
old = record { borne = old_name; field = old_field; as_above = old_as_above; padded = old_padded }

-- document 02: "six-bit codes (byte less 32, blank padding 0)"
abbrev pub code_of : ℕ → ℕ
code_of b = (b - 32) % 64

-- the codes of a name in so many places, "in one .. number, first character highest"; a place that the name leaves is 0
unfoldable pub packing : ℕ → List ℕ → ℕ
packing zero name = 0
packing (suc w) [] = 0
packing (suc w) (b ∷ name) = code_of b * 64 ^ w + packing w name

-- "the name as ten six-bit codes"
abbrev pub packed : List ℕ → ℕ
packed name = packing 10 name

-- and back: a code before the characters after it; a 0 that none follows is padding
unfoldable pub ahead : ℕ → List ℕ → List ℕ
ahead c [] = cond (eqb c 0) [] ((c + 32) ∷ [])
ahead c (b ∷ name) = (c + 32) ∷ b ∷ name

unfoldable pub unpacking : ℕ → ℕ → List ℕ
unpacking zero x = []
unpacking (suc w) x = ahead (x / 64 ^ w % 64) (unpacking w x)

abbrev pub unpacked : ℕ → List ℕ
unpacked x = unpacking 10 x

-- ".. low byte first in bytes 10-17"
abbrev pub packed_name : List ℕ → ℕ
packed_name r = number_at 8 r 10

unfoldable pub six_name : List ℕ → List ℕ
six_name r = unpacked (packed_name r)

-- "byte 9 and 18-19 become zero", as those after them are
unfoldable pub six_field : List ℕ → List ℕ
six_field name = 0 ∷ bytes_of 8 (packed name) ++ replicate 14 0

-- "one 60-bit number"
abbrev pub six_as_above : List ℕ → Bool
six_as_above r = eqb (byte r 9) 0 && ltb (packed_name r) (2 ^ 60) && zeros 18 14 r

-- the padding is in the number: nothing is left to ask
abbrev pub six_padded : List ℕ → Bool
six_padded r = true

abbrev pub six : Layout
six = record { borne = six_name; field = six_field; as_above = six_as_above; padded = six_padded }

-- the layout that the box keeps
abbrev pub boxed : Layout
boxed = six
