-- The walk stopped, or came to the file, where DPR is `dpr_at`.
-- On a fit table the file is there.
use Rattle.elephant.proofs.Ends.{own, handed, end-off, end-at, filed}
use Rattle.paper.specs.Effect.{end_of, dpr_at, dpr_plan}
use Rattle.words.specs.Place.{word_at}
use Rattle.elephant.proofs.change.dpr.Goals as goal

pub dpr_at-requires : goal.dpr_at-requires
dpr_at-requires c =
    let a = c.args in
    filed a.table.now a.line.now a.user 1 (own a.name) c.in_ok-ends.ends (rw c.own-chain.ensures at c.in_ok-ends.ensures) c.requires.0

pub returns-in_err-ends : goal.returns-in_err-ends
unfolding dpr_plan
returns-in_err-ends c =
    let a = c.args in
    end-off a.table.now a.line.now a.user 1 (own a.name) _ _ (rw c.own-chain.ensures at c.in_err-ends.ensures) a.stop _ (handed _ _ c.from_residual.ensures.1)

pub returns : goal.returns
unfolding dpr_plan
returns c =
    let a = c.args in
    end-at a.table.now a.line.now a.user 1 (own a.name) (λ _ f. dpr_at a.table.now (end_of 1 (word_at a.line.now a.name)) a.code f)
    c.in_ok-ends.ends (rw c.own-chain.ensures at c.in_ok-ends.ensures) a.stop _ _ (rw (c.end.ensures, c.own-chain.ensures) at c.dpr_at.ensures)
