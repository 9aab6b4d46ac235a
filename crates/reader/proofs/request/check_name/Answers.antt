-- In each arm the fault is known, and the check that
-- is called is the one that it has.
use Rattle.reader.proofs.request.check_name.Goals as goal

pub returns-in-Malformed : goal.returns-in-Malformed
returns-in-Malformed c = rw c.in-Malformed.is c.check_chain.ensures

pub returns-in-Illegal : goal.returns-in-Illegal
returns-in-Illegal c = rw c.in-Illegal.is c.check_start.ensures

pub returns-in-IllegalTake : goal.returns-in-IllegalTake
returns-in-IllegalTake c = rw c.in-IllegalTake.is (rw c.is_take.ensures at c.check_start-in-IllegalTake.ensures)

pub returns-in-IllegalTakeWithin : goal.returns-in-IllegalTakeWithin
returns-in-IllegalTakeWithin c = rw c.in-IllegalTakeWithin.is (rw c.is_take_within.ensures at c.check_start-in-IllegalTakeWithin.ensures)

pub returns-in-IllegalGive : goal.returns-in-IllegalGive
returns-in-IllegalGive c = rw c.in-IllegalGive.is (rw c.is_give.ensures at c.check_start-in-IllegalGive.ensures)
