-- "Mending, with kind and type read from bytes 0 and 1 alone", and the mark from byte 5, as a list of stores.
use Rattle.std.specs.Prelude.{Bool, ◌&&◌, ◌||◌, not, List, [], ◌++◌, ℕ, zero, suc}
use Rattle.paper.specs.Record.{is_kind, simple, marked, holder_of, heading_named, heading_of}
use Rattle.paper.specs.Table.{rooms, rec}
use Rattle.paper.specs.Entry.{named}
use Rattle.paper.specs.Store.{Store, clears, run}
use Rattle.paper.specs.Count.{recounts}
use Rattle.paper.specs.Sound.{is_base}

-- entry r names a heading and, unless it is a base file's, its directory is a heading
unfoldable pub anchored : List ℕ → List ℕ → Bool
anchored t r = is_kind 1 (rec t (heading_named r)) && (is_base r || is_kind 1 (rec t (holder_of r)))

-- document 02: "entries that name no heading", and "entries, base files' apart, whose directory is no heading"
abbrev pub adrift : List ℕ → ℕ → Bool
adrift t i = is_kind 2 (rec t i) && not (anchored t (rec t i))

-- a heading "that no entry names"
abbrev pub orphan : List ℕ → ℕ → Bool
orphan t i = is_kind 1 (rec t i) && not (named t i)

-- document 02: "Mending a marked file clears its text": a simple-file heading that is not marked
unfoldable pub keeps_text : List ℕ → Bool
keeps_text r = simple r && not (marked r)

-- a "text record whose heading is not a simple-file heading", or is marked
abbrev pub stray : List ℕ → ℕ → Bool
stray t i = is_kind 3 (rec t i) && not (keeps_text (rec t (heading_of (rec t i))))

-- a table with the records that pass the test cleared
abbrev pub wiped : (ℕ → Bool) → List ℕ → List ℕ
wiped p t = run t (clears p (rooms t))

-- document 02: "Mending now first clears entries that name no heading."; "Mending's first step now also clears entries, base files' apart,
-- whose directory is no heading"
abbrev pub mend_first : List ℕ → List Store
mend_first t = clears (adrift t) (rooms t)

-- "clear every heading that no entry names"
abbrev pub mend_second : List ℕ → List Store
mend_second t = clears (orphan t) (rooms t)

-- "then every text record whose heading is not a simple-file heading", and a marked file's
abbrev pub mend_third : List ℕ → List Store
mend_third t = clears (stray t) (rooms t)

-- the table after the first step, and after the second
unfoldable pub after₁ : List ℕ → List ℕ
after₁ t = run t (mend_first t)

unfoldable pub after₂ : List ℕ → List ℕ
after₂ t = run (after₁ t) (mend_second (after₁ t))

-- one round: each step on the table after the one before
unfoldable pub round_stores : List ℕ → List Store
round_stores t = mend_first t ++ (mend_second (after₁ t) ++ mend_third (after₂ t))

unfoldable pub round : List ℕ → List ℕ
round t = run t (round_stores t)

-- n rounds
unfoldable pub rounds_stores : ℕ → List ℕ → List Store
rounds_stores zero t = []
rounds_stores (suc n) t = round_stores t ++ rounds_stores n (round t)

-- document 02: "mending repeats until nothing changes": as often as there are records, for a round that changes something clears one
unfoldable pub clear_stores : List ℕ → List Store
clear_stores t = rounds_stores (rooms t) t

unfoldable pub cleared : List ℕ → List ℕ
cleared t = run t (clear_stores t)

-- document 02: "At its end mending corrects untrue counts, one store a heading, by record number."; "counts last"
unfoldable pub mend_stores : List ℕ → List Store
mend_stores t = clear_stores t ++ recounts (cleared t)

unfoldable pub mended : List ℕ → List ℕ
mended t = run t (mend_stores t)
