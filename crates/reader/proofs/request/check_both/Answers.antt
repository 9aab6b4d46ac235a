-- The five verdicts are those of the five
-- checks, in order.
use Rattle.reader.proofs.Verdicts.{now, next, exits}
use Rattle.reader.proofs.request.check_both.Goals as goal

pub returns-in_err-check_count : goal.returns-in_err-check_count
returns-in_err-check_count c = exits _ _ c.from_residual.ensures.1 (now _ _ c.in_err-check_count.ensures)

pub returns-in_err-check_name : goal.returns-in_err-check_name
returns-in_err-check_name c =
    exits _ _ c.from_residual-in_err-check_name.ensures.1 (next _ _ c.in_ok-check_count.ensures (now _ _ c.in_err-check_name.ensures))

pub returns-in_err-check_name-2 : goal.returns-in_err-check_name-2
returns-in_err-check_name-2 c =
    exits _ _ c.from_residual-in_err-check_name-2.ensures.1
    (next _ _ c.in_ok-check_count.ensures (next _ _ c.in_ok-check_name.ensures (now _ _ c.in_err-check_name-2.ensures)))

pub returns-in_err-check_name-3 : goal.returns-in_err-check_name-3
returns-in_err-check_name-3 c =
    exits _ _ c.from_residual-in_err-check_name-3.ensures.1
    (next _ _ c.in_ok-check_count.ensures (next _ _ c.in_ok-check_name.ensures
    (next _ _ c.in_ok-check_name-2.ensures (now _ _ c.in_err-check_name-3.ensures))))

pub returns : goal.returns
returns c =
    next _ _ c.in_ok-check_count.ensures (next _ _ c.in_ok-check_name.ensures
    (next _ _ c.in_ok-check_name-2.ensures (next _ _ c.in_ok-check_name-3.ensures c.check_name-4.ensures)))
