-- The walk stopped, or came to the file, where CHN is `chn_at`.
-- On a fit table the file is there; the link is one name, so that it is the last of its own chain.
use mathlib.Core.Path.{◌∙◌}
use Rattle.elephant.proofs.Ends.{own, handed, end-off, end-at, filed}
use Rattle.paper.specs.Layout.{boxed}
use Rattle.paper.specs.Effect.{end_of, chn_at, chn_plan}
use Rattle.paper.specs.Walk.{last_name}
use Rattle.walk.proofs.Chains.{last-chain}
use Rattle.words.specs.Place.{names_from, word_at}
use Rattle.elephant.proofs.change.chn.Goals as goal

pub chn_at-requires : goal.chn_at-requires
chn_at-requires c =
    let a = c.args in
    let n = c.last_name.ensures ∙ last-chain a.line.now a.link in (
      filed a.table.now a.line.now a.user 1 (own a.old) c.in_ok-ends.ends (rw c.own-chain.ensures at c.in_ok-ends.ensures) c.requires.0,
      rw n
          c.requires.1,
    )

pub returns-in_err-ends : goal.returns-in_err-ends
unfolding chn_plan
returns-in_err-ends c =
    let a = c.args in
    end-off a.table.now a.line.now a.user 1 (own a.old) _ _ (rw c.own-chain.ensures at c.in_err-ends.ensures) a.stop _ (handed _ _ c.from_residual.ensures.1)

pub returns : goal.returns
unfolding chn_plan
returns c =
    let a = c.args in
    let n = c.last_name.ensures ∙ last-chain a.line.now a.link in
    end-at a.table.now a.line.now a.user 1 (own a.old)
    (chn_at boxed a.table.now (end_of 1 (word_at a.line.now a.old)) (last_name (names_from a.line.now a.link)))
    c.in_ok-ends.ends (rw c.own-chain.ensures at c.in_ok-ends.ensures) a.stop _ _ (rw (n, c.end.ensures, c.own-chain.ensures) at c.chn_at.ensures)
