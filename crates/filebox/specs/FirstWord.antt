-- Is the first word of a line WRS or `WRS*`? By what has been seen of it, byte by byte: `first_word` of proofs/FirstWord.antt says
-- that this is the first word as `Line` cuts it.
use Rattle.std.specs.Prelude.{Bool, true, false, cond, List, [], ◌∷◌, ℕ, eqb}
use Rattle.filebox.specs.declared.first_word.Stage.{Stage}
use Rattle.filebox.specs.declared.first_word.Stage.TheVariants.{Blanks, W, Wr, Wrs, Star, Gap, Is, IsNot}

-- one byte further
abbrev pub after : Stage → ℕ → Stage
after Blanks b = cond (eqb b 32) Blanks (cond (eqb b 87) W IsNot)
after W b = cond (eqb b 82) Wr IsNot
after Wr b = cond (eqb b 83) Wrs IsNot
after Wrs b = cond (eqb b 32) Gap (cond (eqb b 42) Star IsNot)
after Star b = cond (eqb b 32) Gap IsNot
after Gap b = cond (eqb b 32) Gap (cond (eqb b 58) IsNot Is)
after Is b = Is
after IsNot b = IsNot

-- after these bytes more
unfoldable pub stages : Stage → List ℕ → Stage
stages s [] = s
stages s (b ∷ bs) = stages (after s b) bs

-- the first word is one that takes a text, where the line ends here
abbrev pub takes : Stage → Bool
takes Blanks = false
takes W = false
takes Wr = false
takes Wrs = true
takes Star = true
takes Gap = true
takes Is = true
takes IsNot = false
