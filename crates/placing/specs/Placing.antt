-- A new entry at its end: what it meets, the number that refuses it there, and its stores. What it meets is read once, before any
-- store, the counts from the headings; on a sound table these are the paper's own (`Meeting`: `full-met`, `displaced-loses`, `placed-settled`).
use Rattle.std.specs.Prelude.{Bool, true, false, ◌&&◌, not, cond, Option, Some, None, is_some, List, [], ◌∷◌, ◌++◌, ◌⊎◌, ◌≡◌, ℕ, eqb, leb, ltb, length}
use Rattle.paper.specs.Record.{heading_named, directory}
use Rattle.paper.specs.Table.{rec, lay, frees}
use Rattle.paper.specs.Check.{Place, whole, Check, check}
use Rattle.paper.specs.Entry.{Holder, full}
use Rattle.paper.specs.Block.{blocks_of}
use Rattle.paper.specs.Store.{Store, puts}
use Rattle.records.specs.Counts.{named_count, held_count}
use Rattle.records.specs.declared.bytes.Room.{Room}
use Rattle.effects.specs.Listed.{text_rooms}
use Rattle.effects.specs.Stage.{clear_stores}
use Rattle.effects.specs.Counts.{count_stores}
use Rattle.effects.specs.declared.counts.Moves.{Moves}
use Rattle.placing.specs.declared.File.{File}
use Rattle.placing.specs.declared.Meets.{Meets}

-- no other entry names the file of heading h: its count is 1
abbrev pub last_by : List ℕ → ℕ → Bool
last_by t h = eqb (named_count (rec t h)) 1

-- "After an entry is displaced": the file of heading h "is now named by no entry", where it was named once and the new entry, which names
-- heading k, does not name it. The paper's `lost`, by the heading's count
abbrev pub lost_by : List ℕ → ℕ → ℕ → Bool
lost_by t h k = not (eqb k h) && last_by t h

-- the file of heading h, with its count of text records
abbrev pub file_of : List ℕ → ℕ → File
file_of t h = record { heading = record { 0 = h }; count = record { 0 = blocks_of t h } }

-- .. if it is lost
abbrev pub lost_file : List ℕ → ℕ → ℕ → Option File
lost_file t h k = cond (lost_by t h k) (Some (file_of t h)) None

-- the counts that move: "the file named, the file displaced", and "the holder" where nothing is displaced
abbrev pub come : ℕ → ℕ → Moves
come d k = record { named = Some (record { 0 = k }); lost = None; more = Some (record { 0 = d }); less = None }

abbrev pub instead : ℕ → ℕ → Moves
instead h k = record { named = Some (record { 0 = k }); lost = Some (record { 0 = h }); more = None; less = None }

-- .. and where the entry is cleared
abbrev pub gone : ℕ → ℕ → Moves
gone d h = record { named = None; lost = Some (record { 0 = h }); more = None; less = Some (record { 0 = d }) }

-- "An entry already bearing the new name is overwritten in place (displaced)", its file lost or not, with that file's heading and count of
-- text records; else the new entry, which names heading k in d, takes the free record and nothing is lost. The paper's `borne`, and where its
-- `placing` puts the entry
abbrev pub met : List ℕ → Option Room → Holder → ℕ → ℕ → Meets
met t (Some e) d k free =
    record {
      room = e;
      displaced = Some (file_of t (heading_named (rec t e.0)));
      lost = lost_file t (heading_named (rec t e.0)) k;
      moves = instead (heading_named (rec t e.0)) k;
    }
met t None d k free = record { room = record { 0 = free }; displaced = None; lost = None; moves = come d.heading k }

-- what a new entry is to stand in: a base list, or a directory of the table
abbrev pub Held : List ℕ → Holder → Type 0
Held t d = (d.heading ≡ 65535) ⊎ ((directory (rec t d.heading) ≡ true) × (d.user ≡ 0))

-- "directory or base list full": a directory by its count; a base list has none
abbrev pub full_by : List ℕ → Holder → Bool
full_by t d = cond (eqb d.heading 65535) (full t d) (leb 112 (held_count (rec t d.heading)))

-- "a directory with entries", by its count
abbrev pub peopled_by : List ℕ → ℕ → Bool
peopled_by t h = directory (rec t h) && ltb 0 (held_count (rec t h))

-- 18, "file losing its last entry is a directory with entries": the paper's `displacing`, by the file that is lost
abbrev pub losing_by : List ℕ → Option File → Bool
losing_by t (Some f) = peopled_by t f.heading.0
losing_by t None = false

-- "the end checks in number order": 17 "directory or base list full, nothing displaced", 18, and 19 "fewer free records than the request
-- needs". The paper's `full_up`, `still_peopled` and `no_room`, by what is met
abbrev pub entry_checks : List ℕ → Place → Holder → Meets → ℕ → List Check
entry_checks t place d m needed =
    check (not (is_some m.displaced) && full_by t d) 17 place
    ∷ check (losing_by t m.lost) 18 place
    ∷ check (ltb (length (frees t)) needed) 19 (whole 0)
    ∷ []

-- the text records of the file that is lost, by position, in the list r; where no file is lost the list stays
abbrev pub lost_texts : List ℕ → Option File → List ℕ → List ℕ
lost_texts t (Some f) r = text_rooms t f.heading.0 f.count.0
lost_texts t None r = r

-- .. and that file cleared, its text records listed in r
abbrev pub lost_stores : Option File → List ℕ → List Store
lost_stores (Some f) r = clear_stores f.heading.0 r f.count.0
lost_stores None r = []

-- the entry, then the counts that it moves, and "if its file is now named by no entry: its heading cleared, then its text by position",
-- whose records are listed in r. The paper's `placing` after the new file's stores, which leave table t
abbrev pub entry_stores : List ℕ → Meets → List ℕ → List ℕ → List Store
entry_stores t m entry r =
    puts m.room.0 entry ∷ (count_stores (lay t m.room.0 entry) m.moves ++ lost_stores m.lost r)
