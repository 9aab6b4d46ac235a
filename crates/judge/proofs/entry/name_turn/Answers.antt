-- The number of the heading that the entry names is one more, and every other is as it was.
-- No heading has more names than there are records before, so the number fits.
use mathlib.Core.Path.{◌≡◌, refl, sym, ap, ◌∙◌}
use Prim.Native.Nat.{◌+◌, ◌<◌}
use native.Mathlib.Omega.{arith}
use lib.ListN.{get_or}
use Rattle.judge_laws.specs.Mask.{without}
use Rattle.judge_laws.proofs.Mask.{rec-entry}
use Rattle.records.proofs.Numbered.{naming-most, named_more}
use Rattle.paper.specs.Record.{heading_named}
use Rattle.paper.specs.Table.{rec}
use Rattle.judge.proofs.entry.name_turn.Goals as goal

pub overflow_add-named : goal.overflow_add-named
overflow_add-named c =
    let l : c.two_of-h.result < 2048 = omega arith in
    let n = c.requires.4.at c.two_of-h.result l in
    let m = naming-most (without c.args.gone.now c.args.t.now) c.args.i c.two_of-h.result in
    omega arith

pub returns : goal.returns
returns c =
    let t = without c.args.gone.now c.args.t.now in
    let r = rec t c.args.i in
    let q : r ≡ rec c.args.t.now c.args.i = rec-entry c.args.gone.now c.args.t.now c.args.i c.requires.0 c.requires.2 in
    rw (c.two_of-h.ensures.0 ∙ ap heading_named (sym q))
    (named_more t c.args.i c.requires.2 c.args.named.now (get_or c.args.named.now (heading_named r) 0 + 1) c.requires.4 (rw q c.requires.3) refl)
