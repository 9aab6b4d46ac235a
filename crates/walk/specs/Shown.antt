-- The states and answers of the code, and those of `Walk` that they stand for.
use Rattle.std.specs.Prelude.{List, ℕ, Result, Ok, Err}
use Rattle.paper.specs.Effect.{chain_of, list_of, begun}
use Rattle.paper.specs.Walk.{start, linked, reached, stopped}
use Rattle.paper.specs.Walk as W
use Rattle.records.specs.Shown.{holder_shown}
use Rattle.answers.specs.Number.{number_of}
use Rattle.words.specs.Place.{word_at}
use Rattle.words.specs.Shown.{begin_meant}
use Rattle.words.specs.declared.begin.Begin.{Begin}
use Rattle.walk.specs.declared.state.State.{State}
use Rattle.walk.specs.declared.state.Stop.{Stop}

-- the paper's state that a state of the code is, and back
abbrev pub meant : State → W.State
meant s = record { holder = holder_shown s.holder; entry = s.entry.0; code = s.code.0 }

abbrev pub shown : W.State → State
shown s =
    record {
      holder = record { heading = record { 0 = s.holder.heading }; user = s.holder.user };
      entry = record { 0 = s.entry };
      code = record { 0 = s.code };
    }

-- where a walk came to, or its number and the link that it stopped at
abbrev pub walked_meant : Result State Stop → W.Walked
walked_meant (Ok s) = reached (meant s)
walked_meant (Err f) = stopped (number_of f.number) f.link

-- one link: the next state, or its number at this link
abbrev pub step_at : ℕ → W.Step → W.Walked
step_at link step = linked link step reached

-- where a chain of this user starts, and the chain at p
abbrev pub begins : ℕ → Begin → W.State
begins u begin = start (list_of u (begin_meant begin))

abbrev pub chain_at : List ℕ → ℕ → Begin → List (List ℕ)
chain_at line p begin = chain_of (begun (begin_meant begin) (word_at line p))
