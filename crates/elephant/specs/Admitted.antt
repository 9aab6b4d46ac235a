-- What a function of the box stands on: the entrance passed, the line was read as this request, and its text is not too long.
use Rattle.std.specs.Prelude.{false, Ok, List, ◌≡◌, ℕ}
use Rattle.paper.specs.Layout.{boxed}
use Rattle.paper.specs.Check.{passed}
use Rattle.paper.specs.Answer.{entrance}
use Rattle.paper.specs.Request.{read, text_too_long}
use Rattle.reader.specs.declared.request.Request.{Request}
use Rattle.elephant.specs.Done.{Fit}
use Rattle.elephant.specs.Meant.{request_meant}
use Rattle.reader.specs.Asked.{shown_read}

pub record Admitted (t line text : List ℕ) (u : ℕ) (r : Request) : Type 0 where
  pub fit : Fit t
  pub passed : entrance boxed t u ≡ passed
  pub read : Ok r ≡ shown_read (read line)
  pub short : text_too_long (request_meant line r) text ≡ false
