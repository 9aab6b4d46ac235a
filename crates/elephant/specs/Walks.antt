-- What a walk of an argument came to, or the refusal of the request: "in a walk the link refused".
use Rattle.std.specs.Prelude.{List, ℕ, Result, Ok, Err}
use Rattle.paper.specs.Line.{Word}
use Rattle.paper.specs.Check.{Refusal, at_link, refusal_at}
use Rattle.paper.specs.Effect.{begun}
use Rattle.paper.specs.Walk as W
use Rattle.paper.specs.Walk.{reached, stopped, arrived, astray}
use Rattle.words.specs.Place.{word_at}
use Rattle.words.specs.Shown.{begin_meant}
use Rattle.walk.specs.Shown.{shown}
use Rattle.walk.specs.declared.state.State.{State}
use Rattle.walk.specs.declared.end.Ends.{Ends}
use Rattle.elephant.specs.declared.place.Chain.{Chain}

-- the word that is a chain
abbrev pub word_of : List ℕ → Chain → Word
word_of line c = begun (begin_meant c.begin) (word_at line c.at)

-- the walk of this argument to a directory, and to a file
abbrev pub walked_by : ℕ → W.Walked → Result State Refusal
walked_by argument (reached s) = Ok (shown s)
walked_by argument (stopped number link) = Err (refusal_at number (at_link argument link))

abbrev pub ended_by : ℕ → W.End → Result Ends Refusal
ended_by argument (arrived d f) = Ok (record { directory = shown d; file = shown f })
ended_by argument (astray number link) = Err (refusal_at number (at_link argument link))
