-- The three verdicts are those of the three
-- checks, in order.
use Rattle.reader.proofs.Verdicts.{now, next, exits}
use Rattle.reader.proofs.request.check_old.Goals as goal

pub returns-in_err-check_count : goal.returns-in_err-check_count
returns-in_err-check_count c = exits _ _ c.from_residual.ensures.1 (now _ _ c.in_err-check_count.ensures)

pub returns-in_err-check_name : goal.returns-in_err-check_name
returns-in_err-check_name c =
    exits _ _ c.from_residual-in_err-check_name.ensures.1 (next _ _ c.in_ok-check_count.ensures (now _ _ c.in_err-check_name.ensures))

pub returns : goal.returns
returns c = next _ _ c.in_ok-check_count.ensures (next _ _ c.in_ok-check_name.ensures c.check_name-2.ensures)
