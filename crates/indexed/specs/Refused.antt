-- The number of a request with a list that is not the true index: 26 "straight after 2".
use Rattle.std.specs.Prelude.{cond, List, ℕ}
use Rattle.paper.specs.Layout.{boxed}
use Rattle.paper.specs.Table.{sized}
use Rattle.paper.specs.Sound.{sound}

unfoldable pub refused_with : List ℕ → ℕ
refused_with t = cond (sized t) (cond (sound boxed t) 26 2) 1
