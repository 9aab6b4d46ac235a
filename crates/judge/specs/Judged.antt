-- "1: table length no multiple of 32, or above 65,536"; "2: table not sound"; "0" otherwise.
use Rattle.std.specs.Prelude.{Bool, cond, List, ℕ}
use Rattle.paper.specs.Layout.{boxed}
use Rattle.paper.specs.Table.{sized}
use Rattle.paper.specs.Sound.{shaped, sound}
use Rattle.judge_laws.specs.Counts.{sound_but}

unfoldable pub judged : List ℕ → ℕ
judged t = cond (sized t) (cond (sound boxed t) 0 2) 1

-- the same of all but the counts
unfoldable pub judged_shape : List ℕ → ℕ
judged_shape t = cond (sized t) (cond (shaped boxed t) 0 2) 1

-- the counts judged or not
unfoldable pub judged_but : Bool → List ℕ → ℕ
judged_but counted t = cond (sized t) (cond (sound_but counted t) 0 2) 1
