-- A history with an index: calls on a table and on the list beside it, in which each call that is cut is followed by a mend that is run to its end.
use Rattle.std.specs.Prelude.{Bool, true, false, ◌&&◌, ◌||◌, not, List, [], ◌∷◌, ℕ, eqb}
use Rattle.paper.specs.Index.{Kept, keeping, mend_keeping}
use Rattle.paper.specs.Sweep.{sweeping}
use Rattle.histories.specs.History.{Call, asks, mends, sweeps}

-- one call: its answer, and table, index and reply after it
abbrev pub kept_call : (table index : List ℕ) → Call → Kept
kept_call t x (asks line text reply user stop) = keeping t x line text reply user stop
kept_call t x (mends stop) = mend_keeping t x stop
kept_call t x (sweeps stop) = sweeping t x stop

abbrev pub is_mend : Call → Bool
is_mend (asks line text reply user stop) = false
is_mend (mends stop) = true
is_mend (sweeps stop) = false

-- whether the stop number was not reached
abbrev pub ended : Kept → Bool
ended r = not (eqb r.outcome.answer.number 22)

-- requests and sweeps are made only where the call before was not cut: after one that was, mends follow until one is not
unfoldable pub tended : (ended : Bool) (table index : List ℕ) → List Call → Bool
tended b t x [] = true
tended b t x (c ∷ cs) =
    (b || is_mend c) && tended (ended (kept_call t x c)) (kept_call t x c).outcome.table (kept_call t x c).index cs
