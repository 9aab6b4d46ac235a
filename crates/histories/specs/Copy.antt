-- Copies in a history: "a copy's level must be at least its source's".
use Rattle.std.specs.Prelude.{true, false, List, [], ◌∷◌, ◌⊎◌, ◌≡◌, ℕ}
use Rattle.paper.specs.Layout.{boxed}
use Rattle.paper.specs.Declaration.{Part}
use Rattle.paper.specs.Line.{Word}
use Rattle.paper.specs.Request.{Begin, cpy, request, asked}
use Rattle.paper.specs.Walk.{State, start, file, arrived, ended}
use Rattle.paper.specs.Effect.{chain_of, list_of, begun}
use Rattle.paper.specs.Answer.{requested}
use Rattle.histories.specs.History.{Call, asks, mends, sweeps, called, heads}

-- the line is a CPY of user u whose old name leads to heading h of t
pub record CopyOf (t line text : List ℕ) (u h : ℕ) : Type 0 where
  pub from : Begin
  pub old : Word
  pub new : Word
  pub life : Part
  pub lev : Part
  pub code : Part
  pub asked : asked line text ≡ request (cpy from old new life lev code)
  pub directory : State
  pub source : State
  pub end : ended boxed t (start (list_of u from)) (chain_of (begun from old)) ≡ arrived directory source
  pub is : file t source ≡ h

-- a call that copies heading h to heading n, whole or cut: n is a heading after it, and was none before
abbrev pub Copies : List ℕ → Call → ℕ → ℕ → Type 0
Copies t (asks line text reply user stop) h n =
    CopyOf t line text user h × (heads n t ≡ false) × (heads n (requested boxed t line text reply user stop).table ≡ true)
Copies t (mends stop) h n = ⊥
Copies t (sweeps stop) h n = ⊥

-- the file of heading n after a history is that of heading h before it, or a copy of it, or a copy of such a copy
unfoldable pub Descends : List ℕ → ℕ → List Call → ℕ → Type 0
Descends t h [] n = h ≡ n
Descends t h (c ∷ cs) n =
    ((heads h (called t c).table ≡ true) × Descends (called t c).table h cs n)
    ⊎ ((g : ℕ) × Copies t c h g × Descends (called t c).table g cs n)
