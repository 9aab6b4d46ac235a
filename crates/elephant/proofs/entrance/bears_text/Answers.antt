-- A WRS and a WRS* have a text, whatever the line says of their offsets, and no other request has.
-- By the cases of the request.
use mathlib.Core.Logic.{inl, inr}
use Rattle.elephant.proofs.entrance.bears_text.Goals as goal

pub returns-in-Wrs : goal.returns-in-Wrs
returns-in-Wrs c = λ line text. elim c.in-Wrs.is [ inl w ↦ rw w.4 | inr w ↦ rw w.1 ]
