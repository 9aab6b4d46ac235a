-- A heading corrected, from the two numbers that it must say.
use Rattle.std.specs.Prelude.{◌&&◌, not, cond, List, [], ◌∷◌, ◌++◌, ℕ, take, drop}
use Rattle.paper.specs.Number.{bytes_of}
use Rattle.paper.specs.Record.{is_kind, directory}
use Rattle.paper.specs.Store.{Store, puts}
use Rattle.records.specs.Counts.{tells}

-- heading r says that n entries name it and, if it is a directory's, that it holds m; every other byte is as it was
unfoldable pub told : ℕ → ℕ → List ℕ → List ℕ
told n m r = take 12 r ++ (bytes_of 2 n ++ (cond (directory r) (bytes_of 2 m) (take 2 (drop 14 r)) ++ drop 16 r))

-- the store for record i, which holds r
unfoldable pub corrects : ℕ → ℕ → ℕ → List ℕ → List Store
corrects n m i r = cond (is_kind 1 r && not (tells n m r)) (puts i (told n m r) ∷ []) []
