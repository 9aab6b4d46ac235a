-- Document 02: "A heading now stores how many entries name it (bytes 12-13) and, for a directory, how many it holds (bytes 14-15)."
use Rattle.std.specs.Prelude.{Bool, ◌&&◌, ◌||◌, not, List, ℕ}
use Rattle.std.proofs.lemmas.List.Edits.{sets}
use Rattle.paper.specs.Count.{says}
use Rattle.paper.specs.Number.{bytes_of}
use Rattle.paper.specs.Record.{two, directory}

-- the two counts of heading r
abbrev pub named_count : List ℕ → ℕ
named_count r = two r 12

abbrev pub held_count : List ℕ → ℕ
held_count r = two r 14

-- heading r with these counts
unfoldable pub counted : List ℕ → ℕ → ℕ → List ℕ
counted r named held = sets (sets r 12 (bytes_of 2 named)) 14 (bytes_of 2 held)

-- heading r says that n entries name it and, if it is a directory's, that it holds m
unfoldable pub tells : ℕ → ℕ → List ℕ → Bool
tells n m r = says n 12 r && (not (directory r) || says m 14 r)
