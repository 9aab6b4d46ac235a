-- Document 02: "A heading now stores how many entries name it (bytes 12-13) and, for a directory, how many it holds (bytes 14-15)."
use Rattle.std.specs.Prelude.{Bool, ◌&&◌, ◌||◌, not, cond, List, ◌++◌, ℕ, take, drop}
use Rattle.paper.specs.Number.{bytes_of}
use Rattle.paper.specs.Scan.{count_below}
use Rattle.paper.specs.Record.{is_kind, directory, names}
use Rattle.paper.specs.Table.{rooms, rec}
use Rattle.paper.specs.Name.{same}
use Rattle.paper.specs.Entry.{in_directory, crowd}
use Rattle.paper.specs.Store.{Store, fills}

-- "how many entries name it"
unfoldable pub namings : List ℕ → ℕ → ℕ
namings t h = count_below (λ i. names h (rec t i)) (rooms t)

-- "for a directory, how many it holds"
abbrev pub holdings : List ℕ → ℕ → ℕ
holdings t h = crowd t (in_directory h)

-- the two bytes of r from place j on are the number n
abbrev pub says : ℕ → ℕ → List ℕ → Bool
says n j r = same (take 2 (drop j r)) (bytes_of 2 n)

-- "both are true" of the heading r in record i
unfoldable pub counts_right : List ℕ → ℕ → List ℕ → Bool
counts_right t i r = says (namings t i) 12 r && (not (directory r) || says (holdings t i) 14 r)

-- heading r, in record i, with its true counts; a file that is no directory keeps its bytes 14-15
unfoldable pub recounted : List ℕ → ℕ → List ℕ → List ℕ
recounted t i r =
    take 12 r ++ (bytes_of 2 (namings t i) ++ (cond (directory r) (bytes_of 2 (holdings t i)) (take 2 (drop 14 r)) ++ drop 16 r))

abbrev pub untrue : List ℕ → ℕ → Bool
untrue t i = is_kind 1 (rec t i) && not (counts_right t i (rec t i))

-- "corrects every heading whose counts [are] untrue .., one store each, by record number ..; counts still true get no store"
abbrev pub recounts : List ℕ → List Store
recounts t = fills (untrue t) (λ i. recounted t i (rec t i)) (rooms t)
