-- "Refusals of its own, in this order and before any store": each is tried over all sheets before the next.
use Rattle.std.specs.Prelude.{Bool, not, List, ◌++◌, ℕ, suc, ltb, length}
use Rattle.paper.specs.Check.{whole, Check, check, Verdict, verdict}
use Rattle.paper.specs.Name.{same}
use Rattle.paper.specs.Scan.{any_below, each_below}
use Rattle.paper.specs.Table.{rec}
use Rattle.job.specs.Sheet.{count, link_of, length_of, formed, start}

-- "1 sheet malformed (cut short, no legal link name, rest not zero)"
abbrev pub malformed : List ℕ → ℕ → Bool
malformed sheets i = not (formed (rec sheets i))

-- "2 name twice": sheet i bears the name of a sheet before it
abbrev pub twice : List ℕ → ℕ → Bool
twice sheets i = any_below (λ j. same (link_of (rec sheets i)) (link_of (rec sheets j))) i

-- "3 texts shorter than the lengths' sum": the text of sheet i is not wholly there
abbrev pub missing : List ℕ → List ℕ → ℕ → Bool
missing sheets texts i = ltb (length texts) (start sheets (suc i))

-- "4 read-back buffer shorter than the longest text": the text of sheet i is longer than the buffer
abbrev pub too_long : List ℕ → List ℕ → ℕ → Bool
too_long sheets back i = ltb (length back) (length_of (rec sheets i))

-- a refusal tried on each of n sheets; its place is the sheet's number, from 1
unfoldable pub each : ℕ → (ℕ → Bool) → ℕ → List Check
each number wrong n = each_below (λ i. check (wrong i) number (whole (suc i))) n

-- the first refusal, if any
unfoldable pub admission : (sheets texts back : List ℕ) → Verdict
admission sheets texts back =
    verdict
    (each 1 (malformed sheets) (count sheets)
    ++ each 2 (twice sheets) (count sheets)
    ++ each 3 (missing sheets texts) (count sheets)
    ++ each 4 (too_long sheets back) (count sheets))
