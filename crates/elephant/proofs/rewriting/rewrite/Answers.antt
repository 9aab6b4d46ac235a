-- The walk stopped, or came to the file, where WRS* is `rewrite_at`.
-- On a fit table the file is there.
use Rattle.elephant.proofs.Ends.{own, handed, end-off, end-at, filed}
use Rattle.paper.specs.Effect.{end_of, rewrite_at, rewrite_plan}
use Rattle.words.specs.Place.{word_at}
use Rattle.elephant.proofs.rewriting.rewrite.Goals as goal

pub rewrite_at-requires : goal.rewrite_at-requires
rewrite_at-requires c =
    let a = c.args in
    (filed a.table.now a.line.now a.user 2 (own a.name) c.in_ok-ends.ends (rw c.own-chain.ensures at c.in_ok-ends.ensures) c.requires.0, c.requires.2)

pub returns-in_err-ends : goal.returns-in_err-ends
unfolding rewrite_plan
returns-in_err-ends c =
    let a = c.args in
    end-off a.table.now a.line.now a.user 2 (own a.name) (λ _ f. rewrite_at a.table.now a.text.now (end_of 2 (word_at a.line.now a.name)) f)
    _ (rw c.own-chain.ensures at c.in_err-ends.ensures) a.stop _ (handed _ _ c.from_residual.ensures.1)

pub returns : goal.returns
unfolding rewrite_plan
returns c =
    let a = c.args in
    end-at a.table.now a.line.now a.user 2 (own a.name) (λ _ f. rewrite_at a.table.now a.text.now (end_of 2 (word_at a.line.now a.name)) f)
    c.in_ok-ends.ends (rw c.own-chain.ensures at c.in_ok-ends.ensures) a.stop _ _
    (rw (c.end.ensures, c.own-chain.ensures) at c.rewrite_at.ensures)
