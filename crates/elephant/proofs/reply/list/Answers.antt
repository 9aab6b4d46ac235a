-- The lines do not fit, or they are written to the front: the two cases of `writing`, chosen by the same test.
-- On a sound table what is written is what document 01 lists.
use mathlib.Core.List.{[]}
use mathlib.Core.Path.{◌∙◌}
use Prim.Native.Nat.{◌≤◌}
use native.Mathlib.Omega.{arith}
use lib.ListN.{length}
use Rattle.paper.specs.Layout.{boxed}
use Rattle.paper.specs.Listing.{listed, lines}
use Rattle.listing.specs.Shown.{is_listed}
use Rattle.listing.proofs.Promised.{reply-after}
use Rattle.elephant.proofs.Verdicts.{none_left, wrote-short, wrote-out}
use Rattle.effects.proofs.Places.{sized-most}
use Rattle.elephant.proofs.reply.list.Goals as goal

pub returns-then-reply-n : goal.returns-then-reply-n
returns-then-reply-n c =
    let a = c.args in
    let t = a.table.now in
    rw c.whole.ensures
    (wrote-short t a.reply.now (lines boxed t (listed boxed t (is_listed a.which))) [] (omega (arith, c.listed_length-n.ensures)))

pub returns : goal.returns
returns c =
    let a = c.args in
    let t = a.table.now in
    let n = c.listed_length-n.ensures in
    let l : length (lines boxed t (listed boxed t (is_listed a.which))) ≤ length a.reply.now = omega (arith, n) in
    let w = c.write_lines.ensures ∙ reply-after a.which t a.reply.now (sized-most t c.requires.sized)
    c.requires.sound l in
    rw (c.granted.ensures, n) (wrote-out t a.reply.now (lines boxed t (listed boxed t (is_listed a.which))) [] _ l none_left w)
