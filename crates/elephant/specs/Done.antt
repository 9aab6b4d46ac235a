-- What a function of the box stands on, a fit table, and what it leaves: its answer, and the table or the reply after it.
use Rattle.std.specs.Prelude.{true, List, [], ◌≡◌, ℕ, ◌<◌, length, take}
use Rattle.paper.specs.Record.{byte}
use Rattle.paper.specs.Layout.{boxed}
use Rattle.paper.specs.Table.{sized, rooms, rec}
use Rattle.paper.specs.Sound.{sound}
use Rattle.paper.specs.Walk.{State, file}
use Rattle.paper.specs.Store.{Store, run}
use Rattle.paper.specs.Effect.{Planned}
use Rattle.paper.specs.Answer.{Outcome, ran, single}
use Rattle.answers.specs.Shown.{shown}
use Rattle.answers.specs.declared.Answer.{Answer}

-- the table is of fit size and sound
pub record Fit (t : List ℕ) : Type 0 where
  pub sized : sized t ≡ true
  pub sound : sound boxed t ≡ true

-- where a walk on a fit table came to: the file's entry and its heading are in the table
pub record Filed (t : List ℕ) (f : State) : Type 0 where
  pub fit : Fit t
  pub entry : f.entry < rooms t
  pub stands : byte (rec t f.entry) 0 ≡ 2
  pub heading : file t f < rooms t
  pub kind : byte (rec t (file t f)) 0 ≡ 1

-- n stores are needed, and v is the table after the first k of them
pub record Tried (t : List ℕ) (k : ℕ) (ss : List Store) (n : ℕ) (v : List ℕ) : Type 0 where
  pub number : n ≡ length ss
  pub table : v ≡ run t (take k ss)

-- a plan done on a table with a stop number; what is written to a reply is said apart
abbrev pub did : List ℕ → ℕ → Planned → Outcome
did t k p = single t [] k (ran k p)

-- r and u are the answer and the table after a plan on t
pub record Did (t : List ℕ) (k : ℕ) (p : Planned) (r : Answer) (u : List ℕ) : Type 0 where
  pub answer : r ≡ shown (did t k p).answer
  pub table : u ≡ (did t k p).table

-- r and w are the answer and the reply after a plan that stores nothing: no stop number changes it
pub record Wrote (t lent : List ℕ) (p : Planned) (r : Answer) (w : List ℕ) : Type 0 where
  pub answer : r ≡ shown (single t lent 0 (ran 0 p)).answer
  pub reply : w ≡ (single t lent 0 (ran 0 p)).reply
