-- A new entry and, before it, the stores of a new file if it names one: how many, and the plan that they are.
use Rattle.std.specs.Prelude.{Bool, true, false, ◌&&◌, Option, Some, None, is_some, Result, Ok, Err, List, [], ◌∷◌, ◌++◌, ◌≡◌, ℕ, ◌+◌, ◌≤◌, ◌<◌, ltb, get_or, length}
use Rattle.paper.specs.Record.{byte, level, marked, heading_record}
use Rattle.paper.specs.Layout.{boxed}
use Rattle.paper.specs.Table.{sized, rec, room}
use Rattle.paper.specs.Declaration.{Part, or_else}
use Rattle.paper.specs.Line.{Word}
use Rattle.paper.specs.Check.{Place, whole, Check, check}
use Rattle.paper.specs.Request as asked
use Rattle.paper.specs.Entry.{Holder}
use Rattle.paper.specs.Block.{blocks, file_text}
use Rattle.paper.specs.Sound.{sound}
use Rattle.paper.specs.Store.{Store, puts}
use Rattle.paper.specs.Effect.{Making, Planned, plan, borne, is_found, placing, full_up, displacing, still_peopled, no_room, new_file, entry_in, chain_of, filing, copy_heading, making, linking, link_taken}
use Rattle.paper.specs.Walk as W
use Rattle.paper.specs.Walk.{last_name}
use Rattle.words.specs.Place.{word_at}
use Rattle.words.specs.declared.begin.Begin.{Begin}
use Rattle.words.specs.declared.begin.Begin.TheVariants.{Own, Take, Give}
use Rattle.effects.specs.Listed.{free_rooms}
use Rattle.effects.specs.Stage.{text_stores}
use Rattle.effects.specs.Counts.{count_moves}
use Rattle.walk.specs.Shown.{meant, chain_at}
use Rattle.answers.specs.Number.{number_of}
use Rattle.answers.specs.Shown.{place_meant}
use Rattle.records.specs.Shown.{holder_shown}
use Rattle.placing.specs.Placing.{Held, entry_checks}
use Rattle.placing.specs.declared.File.{File}
use Rattle.placing.specs.declared.Meets.{Meets}
use Rattle.answers.specs.declared.Refusal.{Refusal}
use Rattle.elephant.specs.declared.filing.Making as code
use Rattle.elephant.specs.declared.making.Filing.{Filing}
use Rattle.elephant.specs.declared.copying.Copying.{Copying}
use Rattle.records.specs.Part.{meant_part}
use Rattle.elephant.specs.declared.place.Chain.{Chain}

-- how many stores a new file has, if there is one: this is its heading
abbrev pub file_count : Option (List ℕ) → List ℕ → ℕ
file_count (Some h) text = blocks (length text) + 1
file_count None text = 0

-- .. and what they are, on the records listed in r
abbrev pub file_stores : Option (List ℕ) → List ℕ → List ℕ → List Store
file_stores (Some h) r text = puts (get_or r 0 0) h ∷ text_stores (get_or r 0 0) r 1 text
file_stores None r text = []

-- how many free records a new entry needs after so many stores
abbrev pub needed_by : ℕ → Bool → ℕ
needed_by first true = first
needed_by first false = first + 1

-- how many stores there are in all, in a table of n records: the counts' among them
abbrev pub rest_by : Option File → ℕ
rest_by (Some f) = f.count.0 + 2
rest_by None = 1

abbrev pub stores_by : ℕ → ℕ → Meets → ℕ
stores_by n first m = first + (count_moves n m.moves + rest_by m.lost)

-- a new file's stores on paper
abbrev pub first_of : List ℕ → Option (List ℕ) → List ℕ → List Store
first_of t (Some h) text = new_file t h text
first_of t None text = []

-- a new entry under this name
abbrev pub making_of : List ℕ → code.Making → List ℕ → Option (List ℕ) → List ℕ → Making
making_of t m name heading text =
    record {
      place = place_meant m.place;
      directory = meant m.directory;
      name = name;
      first = first_of t heading text;
      entry = entry_in boxed (meant m.directory) m.code.0 m.named.0 name;
    }

-- 16, "A give never displaces.", by what is met
abbrev pub is_give : Begin → Bool
is_give Own = false
is_give (Take user) = false
is_give (Give user) = true

abbrev pub taken_by : Begin → Bool → Bool
taken_by to displaced = displaced && is_give to

-- what refuses after 19, as a check
abbrev pub late_checks : Result (Unit {0}) Refusal → List Check
late_checks (Ok u) = []
late_checks (Err f) = check true (number_of f.number) (place_meant f.place) ∷ []

-- 16 to 19, by what is met, and what refuses after them
abbrev pub all_checks : List ℕ → Begin → Place → Holder → Meets → ℕ → Result (Unit {0}) Refusal → List Check
all_checks t to place d m n late = check (taken_by to (is_some m.displaced)) 16 place ∷ entry_checks t place d m n ++ late_checks late

-- a new entry's plan after the checks 13, 14 and 15, with those after 19
unfoldable pub ending : List ℕ → asked.Begin → Making → List Check → Planned
ending t to m late =
    plan (record {
      checks = link_taken boxed t to m ++ full_up boxed t m ∷ still_peopled m.place (displacing t (borne boxed t m) m.entry) ∷ no_room boxed t m ∷ late;
      stores = placing t m (borne boxed t m);
      displaced = is_found (borne boxed t m);
      reply = [];
    })

-- the file that an entry names: a new one, whose heading goes to the first free record, or one of the table
pub data Names (t : List ℕ) (heading : Option (List ℕ)) (named : ℕ) : Type 0 where
  fresh : (type lev code life n : ℕ) → heading ≡ Some (heading_record type lev code life n) → named ≡ room t 0 → Names t heading named
  standing : heading ≡ None → byte (rec t named) 0 ≡ 1 → Names t heading named

-- what making an entry stands on: the table, its free records listed in r, a name and a text as long as they may be
pub record Ready (t r name text : List ℕ) (m : code.Making) (heading : Option (List ℕ)) : Type 0 where
  pub size : sized t ≡ true
  pub sound : sound boxed t ≡ true
  pub free : r ≡ free_rooms t (blocks (length text) + 2)
  pub short : length name ≤ 10
  pub few : length text ≤ 24000
  pub small : m.named.0 < 65536
  pub held : Held t (holder_shown m.directory.holder)
  pub names : Names t heading m.named.0

-- what a new file in d stands on besides: the directory, and its heading, which "starts with both at 0"
pub record Fresh (t : List ℕ) (d : Holder) (heading : List ℕ) : Type 0 where
  pub held : Held t d
  pub type : ℕ
  pub lev : ℕ
  pub code : ℕ
  pub life : ℕ
  pub size : ℕ
  pub is : heading ≡ heading_record type lev code life size

-- what a new name at p stands on: the table, the name's length and the text's; and the line's, in which its links are counted
pub record Named (t line : List ℕ) (p : ℕ) (text : List ℕ) : Type 0 where
  pub size : sized t ≡ true
  pub sound : sound boxed t ≡ true
  pub short : length (last_name (chain_of (word_at line p))) ≤ 10
  pub few : length text ≤ 24000
  pub brief : length line ≤ 256

-- .. and a new name that begins so: its last name is the one that is written
pub record Linked (t line : List ℕ) (new : Chain) : Type 0 where
  pub named : Named t line new.at []
  pub last : last_name (chain_at line new.at new.begin) ≡ last_name (chain_of (word_at line new.at))

-- a new file's making
abbrev pub filing_of : List ℕ → List ℕ → Filing → List ℕ → Making
filing_of t line f text = filing boxed t f.argument (word_at line f.at) (meant f.directory) f.code.0 f.heading text

-- DUP at the end of its walks: the entry of the file that f came to, in d
abbrev pub linking_in : List ℕ → asked.Begin → Word → Part → W.State → W.State → Planned
linking_in t to new code f d = making boxed t (linking boxed t f d new code) [] (link_taken boxed t to (linking boxed t f d new code)) []

-- CPY's making: a new file with the text of heading h, and what is not declared from it
abbrev pub copied_to : List ℕ → Word → W.State → ℕ → Part → Part → Part → Making
copied_to t w d h life lev code =
    filing boxed t 2 w d (or_else code 0) (copy_heading (rec t h) life lev code (length (file_text t h))) (file_text t h)

-- .. by what the code has of the copy
abbrev pub copied : List ℕ → List ℕ → Copying → ℕ → Making
copied t line c h =
    copied_to t (word_at line c.at) (meant c.directory) h (meant_part c.lifetime) (meant_part c.declared.level) (meant_part c.declared.digit)

-- its checks after 19: 23 of the source, whose name is at this place, and 25 of the level that the copy has
abbrev pub copy_late : Place → List ℕ → ℕ → List Check
copy_late place source lev = check (marked source) 23 place ∷ check (ltb lev (level source)) 25 (whole 3) ∷ []

abbrev pub late_of : Place → Part → List ℕ → List Check
late_of place lev source = copy_late place source (or_else lev (level source))
