-- Too long, and the reply as it was, or all of it written to the front: what `list_tree` answers are the two cases of `writing`.
-- On a sound table what is written is document 02's tree.
use mathlib.Core.Path.{sym, ◌∙◌}
use Rattle.elephant.proofs.Trees.{deep-short, deep_out}
use Rattle.elephant.proofs.reply.list_deep.Goals as goal

pub returns-in_default : goal.returns-in_default
returns-in_default c =
    let a = c.args in
    let l = c.list_tree.ensures in
    rw c.whole.ensures
    (deep-short a.table.now a.reply.now _ c.requires a.which a.depth l.1 (sym c.in_default.is ∙ l.0))

pub returns : goal.returns
returns c =
    let a = c.args in
    let l = c.list_tree.ensures in
    rw c.granted.ensures
    (deep_out a.table.now a.reply.now _ c.requires a.which a.depth l.1 c.in-Some.n (sym c.in-Some.is ∙ l.0))
