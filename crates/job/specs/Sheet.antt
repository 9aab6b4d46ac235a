-- "A job sheet is records of 32 bytes: link name (padded with zeros), text length (two bytes, at 10), the rest zero; the texts
-- follow in a second lent buffer, in order."
use Rattle.std.specs.Prelude.{Bool, ◌&&◌, cond, List, [], ◌∷◌, ℕ, zero, suc, ◌+◌, ◌-◌, ◌/◌, eqb, length, take, drop}
use Rattle.paper.specs.Name.{link_name}
use Rattle.paper.specs.Record.{two, zeros}
use Rattle.paper.specs.Scan.{each_below}
use Rattle.paper.specs.Table.{rec}

-- how many sheets a job has: a last part of less than 32 bytes counts as one, which is cut short
abbrev pub count : List ℕ → ℕ
count sheets = (length sheets + 31) / 32

-- the bytes before the first zero
unfoldable pub unpadded : List ℕ → List ℕ
unpadded [] = []
unpadded (b ∷ s) = cond (eqb b 0) [] (b ∷ unpadded s)

-- "link name (padded with zeros)": the first ten bytes
unfoldable pub link_of : List ℕ → List ℕ
link_of r = unpadded (take 10 r)

-- "text length (two bytes, at 10)"
abbrev pub length_of : List ℕ → ℕ
length_of r = two r 10

-- the record is a sheet: 32 bytes, a legal link name and zeros up to the length, zeros after it
unfoldable pub formed : List ℕ → Bool
formed r =
    eqb (length r) 32 && link_name (link_of r) && zeros (length (link_of r)) (10 - length (link_of r)) r && zeros 12 20 r

-- "the texts follow .. in order": where the text of sheet i begins, the sum of the lengths before it
unfoldable pub start : List ℕ → ℕ → ℕ
start sheets zero = 0
start sheets (suc i) = start sheets i + length_of (rec sheets i)

-- a sheet of a job: its link and its text
pub record Sheet : Type 0 where
  pub link : List ℕ
  pub text : List ℕ

-- sheet i of the job, from 0
unfoldable pub sheet : List ℕ → List ℕ → ℕ → Sheet
sheet sheets texts i =
    record { link = link_of (rec sheets i); text = take (length_of (rec sheets i)) (drop (start sheets i) texts) }

-- the sheets of a job, in order
unfoldable pub job : List ℕ → List ℕ → List Sheet
job sheets texts = each_below (sheet sheets texts) (count sheets)
