-- A history: "any sequence of requests of any users from a sound table, cuts each followed by a mend included"; sweeps are calls of it too.
use Rattle.std.specs.Prelude.{Bool, true, false, ◌&&◌, not, List, [], ◌∷◌, ℕ, eqb}
use Rattle.paper.specs.Record.{is_kind}
use Rattle.paper.specs.Layout.{boxed}
use Rattle.paper.specs.Table.{rec}
use Rattle.paper.specs.Answer.{Answer, Outcome, requested, mending}
use Rattle.paper.specs.Index.{true_index}
use Rattle.paper.specs.Sweep.{sweeping}

-- one call, whole or cut by its stop number: a request of some user, a mend, or a sweep
pub data Call : Type 0 where
  asks : (line text reply : List ℕ) (user stop : ℕ) → Call
  mends : (stop : ℕ) → Call
  sweeps : (stop : ℕ) → Call

-- its answer, the table after and the reply after; a sweep is lent the true index, for with any other it is refused and changes nothing
abbrev pub called : List ℕ → Call → Outcome
called t (asks line text reply user stop) = requested boxed t line text reply user stop
called t (mends stop) = mending boxed t stop
called t (sweeps stop) = (sweeping t (true_index t) stop).outcome

abbrev pub is_request : Call → Bool
is_request (asks line text reply user stop) = true
is_request (mends stop) = false
is_request (sweeps stop) = false

-- the same call with another stop number: the tables between its stores are those after it is cut
abbrev pub cut_at : ℕ → Call → Call
cut_at k (asks line text reply user stop) = asks line text reply user k
cut_at k (mends stop) = mends k
cut_at k (sweeps stop) = sweeps k

-- the table after a history, which is any list of calls: a request or sweep that answers 22 and the mends after it, each cut or whole, are
-- some of them, and no order is asked, since a request or sweep on a table that is not sound is refused
unfoldable pub after : List ℕ → List Call → List ℕ
after t [] = t
after t (c ∷ cs) = after (called t c).table cs

-- no call of it is cut by its stop number
unfoldable pub uncut : List ℕ → List Call → Bool
uncut t [] = true
uncut t (c ∷ cs) = not (eqb (called t c).answer.number 22) && uncut (called t c).table cs

-- what a history shows to who makes the calls: each answer and each reply
pub record Shown : Type 0 where
  pub answer : Answer
  pub reply : List ℕ

unfoldable pub shown : List ℕ → List Call → List Shown
shown t [] = []
shown t (c ∷ cs) = record { answer = (called t c).answer; reply = (called t c).reply } ∷ shown (called t c).table cs

-- record h is a heading
abbrev pub heads : ℕ → List ℕ → Bool
heads h t = is_kind 1 (rec t h)

-- .. after every call: it "has not been cleared"
unfoldable pub remains : ℕ → List ℕ → List Call → Bool
remains h t [] = true
remains h t (c ∷ cs) = heads h (called t c).table && remains h (called t c).table cs
