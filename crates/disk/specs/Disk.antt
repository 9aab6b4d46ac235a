-- What a disk may hold when the power fails, the phases written in order: any part of the one that was not flushed yet.
-- A rewrite has phases of its own: the heading marked, all text, the heading unmarked. So has a DST: the heading cleared, then the rest.
use Rattle.std.specs.Prelude.{false, List, [], ◌∷◌, ◌⊎◌, ◌≡◌, ℕ, ◌-◌, ◌<◌, length}
use Rattle.paper.specs.Layout.{boxed}
use Rattle.paper.specs.Table.{rooms, rec}
use Rattle.paper.specs.Line.{Word}
use Rattle.paper.specs.Request.{del, dst, rewrite, request, asked}
use Rattle.paper.specs.Effect.{del_plan, dst_plan}
use Rattle.paper.specs.Answer.{requested, deleting}
use Rattle.disk.specs.Phase.{first, entry, last, only_counts, phase}

-- u is "the table after a granted request" on t, or, "for DEL: after one name", whichever of its names that is
pub data Granted (t u : List ℕ) : Type 0 where
  whole : (line text reply : List ℕ) (user stop : ℕ) → ((names : List Word) → asked line text ≡ request (del names) → ⊥)
      → ((names : List Word) → asked line text ≡ request (dst names) → ⊥) → ((name : Word) → asked line text ≡ request (rewrite name) → ⊥)
      → (requested boxed t line text reply user stop).answer.number ≡ 0 → u ≡ (requested boxed t line text reply user stop).table → Granted t u
  name : (user stop done made : ℕ) (w : Word) → (deleting (del_plan boxed) t user [] stop done made (w ∷ [])).answer.number ≡ 0
      → u ≡ (deleting (del_plan boxed) t user [] stop done made (w ∷ [])).table → Granted t u

-- document 02, `WRS*`: the tables a, b and u after the first of its n stores, after all but the last, and after all
pub record Rewritten (t a b u : List ℕ) : Type 0 where
  pub line : List ℕ
  pub text : List ℕ
  pub reply : List ℕ
  pub user : ℕ
  pub name : Word
  pub asked : asked line text ≡ request (rewrite name)
  pub stop : ℕ
  pub granted : (requested boxed t line text reply user stop).answer.number ≡ 0
  pub marked : a ≡ (requested boxed t line text reply user 1).table
  pub texts : b ≡ (requested boxed t line text reply user ((requested boxed t line text reply user stop).answer.stores - 1)).table
  pub after : u ≡ (requested boxed t line text reply user stop).table

-- document 02, `DST`, one name: the tables a and u after the first of its stores, and after all
pub record Destroyed (t a u : List ℕ) : Type 0 where
  pub user : ℕ
  pub stop : ℕ
  pub done : ℕ
  pub made : ℕ
  pub name : Word
  pub granted : (deleting (dst_plan boxed) t user [] stop done made (name ∷ [])).answer.number ≡ 0
  pub cleared : a ≡ (deleting (dst_plan boxed) t user [] 1 done made (name ∷ [])).table
  pub after : u ≡ (deleting (dst_plan boxed) t user [] stop done made (name ∷ [])).table

-- u is the table after one name of a DST on t
pub data Razed (t u : List ℕ) : Type 0 where
  razed : (a : List ℕ) → Destroyed t a u → Razed t u

-- tables one after the other, each by such a step from the one before, the first from t; and the last of them
abbrev pub Steps : (List ℕ → List ℕ → Type 0) → List ℕ → List (List ℕ) → Type 0
Steps S t [] = Unit {0}
Steps S t (a ∷ more) = S t a × Steps S a more

unfoldable pub ending : List ℕ → List (List ℕ) → List ℕ
ending t [] = t
ending t (a ∷ more) = ending a more

-- x "agrees record by record with t or" u
pub record Agrees (t u x : List ℕ) : Type 0 where
  pub long : length x ≡ length t
  pub each : (i : ℕ) → i < rooms t → (rec x i ≡ rec t i) ⊎ (rec x i ≡ rec u i)

-- no record of phase p is written; every one is
abbrev pub None : (t u x : List ℕ) → ℕ → Type 0
None t u x p = (i : ℕ) → i < rooms t → phase t u i ≡ p → rec x i ≡ rec t i

abbrev pub All : (t u x : List ℕ) → ℕ → Type 0
All t u x p = (i : ℕ) → i < rooms t → phase t u i ≡ p → rec x i ≡ rec u i

-- no record of the last phase is written; but a heading with other counts needs no flush and may be written at any time
abbrev pub NoneLast : (t u x : List ℕ) → Type 0
NoneLast t u x = (i : ℕ) → i < rooms t → phase t u i ≡ last → only_counts (rec t i) (rec u i) ≡ false → rec x i ≡ rec t i

-- "so that phases go in order"
pub data InOrder (t u x : List ℕ) : Type 0 where
  -- "some first-phase records of" u "and nothing else of" u
  in_first : Agrees t u x → None t u x entry → NoneLast t u x → InOrder t u x
  -- "all of the first and perhaps the entry"
  at_entry : Agrees t u x → All t u x first → NoneLast t u x → InOrder t u x
  -- "all of those and some of the last"
  in_last : Agrees t u x → All t u x first → All t u x entry → InOrder t u x

-- a DST's one name: "heading cleared", a flush, "text by position, then every entry naming it .., then the holders' counts"
pub data InTwo (t a u x : List ℕ) : Type 0 where
  -- nothing but perhaps the heading; and counts at any time
  in_heading : Agrees t u x
      → ((i : ℕ) → i < rooms t → rec a i ≡ rec t i → only_counts (rec t i) (rec u i) ≡ false → rec x i ≡ rec t i) → InTwo t a u x
  -- the heading, and any of the rest
  in_rest : Agrees t u x → ((i : ℕ) → i < rooms t → (rec a i ≡ rec t i → ⊥) → rec x i ≡ rec a i) → InTwo t a u x
