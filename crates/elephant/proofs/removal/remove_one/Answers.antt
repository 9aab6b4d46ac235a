-- The walk stopped, or came to the file, where one name is `remove_at`.
-- On a fit table the file is there.
use Rattle.elephant.proofs.Ends.{own, removal-end, name-off, name-at, filed}
use Rattle.elephant.specs.Removed.{removal_at}
use Rattle.paper.specs.Effect.{end_of}
use Rattle.words.specs.Place.{word_at}
use Rattle.elephant.proofs.removal.remove_one.Goals as goal

pub remove_at-requires : goal.remove_at-requires
remove_at-requires c =
    let a = c.args in
    filed a.table.now a.line.now a.user a.argument (own a.name) c.in-Ok.ends (rw c.own-chain.ensures at c.in-Ok.ensures) c.requires.0

pub returns-in-Ok : goal.returns-in-Ok
returns-in-Ok c =
    let a = c.args in
    rw (removal-end a.removal a.table.now a.user a.argument (word_at a.line.now a.name))
    (name-at a.table.now a.line.now a.user a.argument (own a.name) (removal_at a.removal a.table.now (end_of a.argument (word_at a.line.now a.name)))
    c.in-Ok.ends (rw c.own-chain.ensures at c.in-Ok.ensures) a.left _ _ (rw (c.end.ensures, c.own-chain.ensures) at c.remove_at.ensures))

pub returns-in-Err : goal.returns-in-Err
returns-in-Err c =
    let a = c.args in
    rw (removal-end a.removal a.table.now a.user a.argument (word_at a.line.now a.name))
    (name-off a.table.now a.line.now a.user a.argument (own a.name) _ c.in-Err.refusal (rw c.own-chain.ensures at c.in-Err.ensures) a.left)
