-- "The walk carries one small state from link to link: the directory, the entry, the joined code."
use Rattle.std.specs.Prelude.{not, cond, List, [], ◌∷◌, ℕ, suc, ◌-◌, length, get_or}
use Rattle.paper.specs.Scan.{Found, at, nowhere}
use Rattle.paper.specs.Record.{heading_code, entry_code, heading_named, directory}
use Rattle.paper.specs.Layout.{Layout}
use Rattle.paper.specs.Table.{rec}
use Rattle.paper.specs.Code.{joined, no_read}
use Rattle.paper.specs.Entry.{Holder, base_list, in_directory, find}

-- where the next name is looked up; the entry last followed, or 65,535 for none; the code that applies there
pub record State : Type 0 where
  pub holder : Holder
  pub entry : ℕ
  pub code : ℕ

-- a walk starts in a user's base list: "The base list is never inhibited."
abbrev pub start : ℕ → State
start u = record { holder = base_list u; entry = 65535; code = 0 }

-- "What applies to a file is the union of its heading's code and the code of the one entry last followed"
unfoldable pub applies : List ℕ → ℕ → ℕ
applies t e = joined (heading_code (rec t (heading_named (rec t e)))) (entry_code (rec t e))

-- the heading that the entry last followed names
abbrev pub file : List ℕ → State → ℕ
file t s = heading_named (rec t s.entry)

-- one link: the next state, or number 11, 12 or 13
pub data Step : Type 0 where
  on : State → Step
  off : ℕ → Step

-- 11: "name not there"
abbrev pub looked : List ℕ → State → Found → Step
looked t s (at e) = on (record { holder = s.holder; entry = e; code = applies t e })
looked t s nowhere = off 11

unfoldable pub look : Layout → List ℕ → State → List ℕ → Step
look L t s n = looked t s (find L t s.holder n)

-- 12 and 13: "A name before the last must be a directory not read-inhibited."
unfoldable pub enter : List ℕ → State → Step
enter t s =
    cond (not (directory (rec t (file t s)))) (off 12)
    (cond (no_read s.code) (off 13) (on (record { holder = in_directory (file t s); entry = s.entry; code = s.code })))

abbrev pub then : Step → (State → Step) → Step
then (on s) f = f s
then (off number) f = off number

-- a link before the last: "at each link 11, 12, 13"
unfoldable pub follow : Layout → List ℕ → State → List ℕ → Step
follow L t s n = then (look L t s n) (enter t)

-- the end of a walk, or its number with the link that it stopped at
pub data Walked : Type 0 where
  reached : State → Walked
  stopped : (number link : ℕ) → Walked

abbrev pub linked : ℕ → Step → (State → Walked) → Walked
linked k (on s) f = f s
linked k (off number) f = stopped number k

-- "a new name only to its directory": from link k on, every name but the last is followed
unfoldable pub to_directory : Layout → List ℕ → ℕ → State → List (List ℕ) → Walked
to_directory L t k s [] = reached s
to_directory L t k s (n ∷ []) = reached s
to_directory L t k s (n ∷ m ∷ ns) = linked k (follow L t s n) (λ d. to_directory L t (suc k) d (m ∷ ns))

-- the last name of a chain
unfoldable pub last_name : List (List ℕ) → List ℕ
last_name ns = get_or ns (length ns - 1) []

-- the last name is looked up in the directory d
abbrev pub to_last : Layout → List ℕ → State → List (List ℕ) → Walked
to_last L t d ns = linked (length ns) (look L t d (last_name ns)) reached

-- the end of a walk: the directory and the file of a name, or its number with the link that it stopped at
pub data End : Type 0 where
  arrived : (directory file : State) → End
  astray : (number link : ℕ) → End

abbrev pub last_from : State → Walked → End
last_from d (reached f) = arrived d f
last_from d (stopped number link) = astray number link

abbrev pub end_from : Layout → List ℕ → List (List ℕ) → Walked → End
end_from L t ns (reached d) = last_from d (to_last L t d ns)
end_from L t ns (stopped number link) = astray number link

-- "at each link 11, 12, 13": every name but the last to its directory, and there the last
unfoldable pub ended : Layout → List ℕ → State → List (List ℕ) → End
ended L t s ns = end_from L t ns (to_directory L t 1 s ns)
