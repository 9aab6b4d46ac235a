-- One pass over the table: what is known and counted once the records before i are judged.
use Rattle.std.specs.Prelude.{Bool, true, ◌&&◌, List, ◌≡◌, ℕ, ◌<◌, ◌≤◌, get_or, length}
use Rattle.paper.specs.Record.{is_kind, directory}
use Rattle.paper.specs.Scan.{count_below}
use Rattle.paper.specs.Sound.{is_base}
use Rattle.paper.specs.Table.{rec}
use Rattle.records.specs.Numbered.{naming, holding, Numbered}
use Rattle.judge_laws.specs.Chains.{Chained}
use Rattle.judge_laws.specs.Mask.{without}
use Rattle.judge_laws.specs.Places.{short_at, texts, Marked}
use Rattle.judge_laws.specs.Shapes.{right_at}
use Rattle.judge_laws.specs.Twins.{hash_of, single}

-- record j is an entry of a base file
abbrev pub base_entry : List ℕ → ℕ → Bool
base_entry t j = is_kind 2 (rec t j) && is_base (rec t j)

-- how many entries of base files there are below i
unfoldable pub basing : List ℕ → ℕ → ℕ
basing t i = count_below (base_entry t) i

-- what the directories hold below i, none of them too much
pub record Held (t held : List ℕ) (i : ℕ) : Type 0 where
  pub counts : Numbered (holding t i) held
  pub most : (d : ℕ) → d < 2048 → holding t i d ≤ 112

-- what holds an entry is a directory
pub record Found (gone t held : List ℕ) : Type 0 where
  pub at : (d : ℕ) → d < 2048 → (get_or held d 0 ≡ 0 → ⊥) → directory (rec (without gone t) d) ≡ true
  pub long : length held ≡ 2048

-- the entries below i are counted for the headings they name and the directories that hold them, and no two are twins, as long as there are
-- steps left to walk their chains
pub record Entries (t named held head next : List ℕ) (left i : ℕ) : Type 0 where
  pub single : 0 < left → (j : ℕ) → j < i → single t j ≡ true
  pub naming : Numbered (naming t i) named
  pub holding : Held t held i
  pub chains : Chained hash_of t head next left i

-- the records below i are judged, without those that go: so much text, so many entries of base files, and so many steps left
pub record Passed (gone t mark named held head next : List ℕ) (text-count base-count left i : ℕ) : Type 0 where
  pub right : (j : ℕ) → j < i → right_at (without gone t) j ≡ true
  pub short : (j : ℕ) → j < i → short_at (without gone t) j ≡ true
  pub text : Marked (without gone t) mark i
  pub entries : Entries (without gone t) named held head next left i
  pub texted : text-count ≡ texts (without gone t) i
  pub based : base-count ≡ basing (without gone t) i
