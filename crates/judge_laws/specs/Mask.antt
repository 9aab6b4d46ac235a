-- Records that are taken as gone: a table judged as it would be without them.
use Rattle.std.specs.Prelude.{Bool, not, List, ℕ, eqb, get_or}
use Rattle.paper.specs.Mend.{wiped}

-- record i has no mark
abbrev pub stays : List ℕ → ℕ → Bool
stays gone i = eqb (get_or gone i 0) 0

-- record i goes: it is marked, whatever its kind
abbrev pub goes : List ℕ → ℕ → Bool
goes gone i = not (stays gone i)

-- the table with the records that go cleared
unfoldable pub without : List ℕ → List ℕ → List ℕ
without gone t = wiped (goes gone) t
