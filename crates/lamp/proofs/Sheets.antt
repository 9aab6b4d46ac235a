-- A name is no longer than the bytes that it is looked for in, and a record is a sheet by four tests in turn.
-- So a link name has at most ten bytes.
use mathlib.Core.Bool.{Bool, true, false, cond, ◌&&◌}
use mathlib.Core.List.{List, [], ◌∷◌}
use mathlib.Core.Path.{◌≡◌, refl}
use Prim.Native.Nat.{ℕ, ◌-◌, ◌≤◌}
use native.Mathlib.Omega.{arith}
use lib.Dec.{eqb}
use lib.ListN.{length, take, length-take}
use Rattle.paper.specs.Name.{link_name}
use Rattle.paper.specs.Record.{zeros}
use Rattle.job.specs.Sheet.{unpadded, link_of, formed}

unpadded-most : (s : List ℕ) → length (unpadded s) ≤ length s
unfolding unpadded
unpadded-most [] = omega arith
unpadded-most (b ∷ s) = go (eqb b 0) (unpadded-most s)
  where
    go : (e : Bool) → length (unpadded s) ≤ length s → length (cond e [] (b ∷ unpadded s)) ≤ length (b ∷ s)
    go true l = omega arith
    go false l = omega arith

-- a link name has at most ten bytes
link-most : (r : List ℕ) → length (link_of r) ≤ 10
unfolding link_of
link-most r = let a = unpadded-most (take 10 r) in let b = length-take 10 r in omega arith

-- the parts of a sheet, one test after another
module _ (r : List ℕ) where
  pub formed-parts : formed r ≡ (eqb (length r) 32 && link_name (link_of r) && zeros (length (link_of r)) (10 - length (link_of r)) r && zeros 12 20 r)
  unfolding formed
  formed-parts = refl

  pub link-short : (link : List ℕ) → link ≡ link_of r → length link ≤ 10
  link-short link e = rw e (link-most r)
