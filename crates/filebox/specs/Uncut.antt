-- Which bytes of the input make a request, and whether any of these is cut by the stop number.
use Rattle.std.specs.Prelude.{Bool, true, ◌&&◌, not, List, [], ◌∷◌, ℕ, eqb}
use Rattle.paper.specs.Sound.{implies}
use Rattle.filebox.specs.Box.{Box, outcome, takes_text, stepped}

-- the byte ends a text, or a line that takes none
unfoldable pub asks : Box → ℕ → Bool
asks x b = eqb b 10 && not (not x.asked && takes_text x.line)

-- no request that the input makes is answered 22
unfoldable pub uncut : Box → List ℕ → Bool
uncut x [] = true
uncut x (b ∷ bs) = implies (asks x b) (not (eqb (outcome x).answer.number 22)) && uncut (stepped x b) bs
