-- The two verdicts are those of the two
-- parts of the list, in order.
use Rattle.reader.proofs.Verdicts.{now, next, exits}
use Rattle.reader.proofs.request.check_form.Goals as goal

pub returns-in_err-check_count : goal.returns-in_err-check_count
returns-in_err-check_count c = exits _ _ c.from_residual.ensures.1 (now _ _ c.in_err-check_count.ensures)

pub returns : goal.returns
returns c = next _ _ c.in_ok-check_count.ensures c.check_names.ensures
