-- The ends of the code's walks, for the paper's: of one name, and of an old one and a new one.
use Rattle.std.specs.Prelude.{Result, Ok, Err}
use Rattle.paper.specs.Check.{Refusal, refusal_at, at_link}
use Rattle.paper.specs.Walk as W
use Rattle.paper.specs.Walk.{reached, stopped, arrived, astray}
use Rattle.answers.specs.Number.{number_of}
use Rattle.walk.specs.Shown.{meant}
use Rattle.walk.specs.declared.state.Stop.{Stop}
use Rattle.walk.specs.declared.end.Ends.{Ends}
use Rattle.walk.specs.declared.end.BothStop.{BothStop}

abbrev pub end_meant : Result Ends Stop → W.End
end_meant (Ok e) = arrived (meant e.directory) (meant e.file)
end_meant (Err f) = astray (number_of f.number) f.link

-- what two walks lead to: the directory of a new name and the file of an old one, or a number, its argument and its link
pub data Both : Type 0 where
  led : (directory file : W.State) → Both
  lost : Refusal → Both

-- argument 1 to its file and argument 2 to its directory: "the arguments are walked left to right"
abbrev pub both_of : W.End → W.Walked → Both
both_of (astray number link) w = lost (refusal_at number (at_link 1 link))
both_of (arrived d f) (stopped number link) = lost (refusal_at number (at_link 2 link))
both_of (arrived d f) (reached s) = led s f

abbrev pub both_meant : Result Ends BothStop → Both
both_meant (Ok e) = led (meant e.directory) (meant e.file)
both_meant (Err f) = lost (refusal_at (number_of f.stop.number) (at_link f.place f.stop.link))
