use mathlib.Core.Path.{sym, ◌∙◌}
use Prim.Native.Nat.{◌-◌, ◌<◌}
use native.Mathlib.Omega.{arith}
use Rattle.judge_laws.specs.Mask.{without}
use Rattle.paper.specs.Entry.{holder, stands}
use Rattle.paper.specs.Table.{rooms}
use Rattle.judge_laws.proofs.Mask.{rec-entry, entries-without}
use Rattle.judge_laws.proofs.Crowds.{beside-start, beside_end, beside-found, beside-on}
use Rattle.judge.proofs.crowds.last_beside.Goals as goal

pub loop-c-init : goal.loop-c-init
loop-c-init c =
    beside-start (without c.args.gone.now c.args.t.now) c.args.i c.args.first c.requires.3

pub are_beside-requires : goal.are_beside-requires
are_beside-requires c =
    let k = (c.loop-c.invariant.here (omega arith)).0 in
    let b : c.loop-c.c - 1 < rooms c.args.t.now = omega (arith, c.loop-c.invariant.low) in
    (omega arith, b, rw (← rec-entry c.args.gone.now c.args.t.now (c.loop-c.c - 1) b k) k)

pub returns-then-are_beside : goal.returns-then-are_beside
returns-then-are_beside c =
    let g = c.args.gone.now in
    let t = c.args.t.now in
    let w = c.loop-c.invariant in
    let q = entries-without g t (λ x y. stands (holder x) y) c.args.i (c.loop-c.c - 1) c.requires.0 (omega (arith, w.low)) c.requires.2
    (w.here (omega arith)).0 in
    (sym (beside-found (without g t) c.args.i c.loop-c.c w (omega arith) (q ∙ sym c.are_beside.ensures ∙ c.if-are_beside.true)), omega arith)

pub loop-c-smaller : goal.loop-c-smaller
loop-c-smaller c =
    let g = c.args.gone.now in
    let t = c.args.t.now in
    let w = c.loop-c.invariant in
    let q = entries-without g t (λ x y. stands (holder x) y) c.args.i (c.loop-c.c - 1) c.requires.0 (omega (arith, w.low)) c.requires.2
    (w.here (omega arith)).0 in
    (beside-on (without g t) c.args.i c.loop-c.c w c.args.next.now c.from-c.result (omega arith)
    (q ∙ sym c.are_beside.ensures ∙ c.if-are_beside.false) c.requires.4 c.from-c.ensures).1

pub loop-c-preserved : goal.loop-c-preserved
loop-c-preserved c =
    let g = c.args.gone.now in
    let t = c.args.t.now in
    let w = c.loop-c.invariant in
    let q = entries-without g t (λ x y. stands (holder x) y) c.args.i (c.loop-c.c - 1) c.requires.0 (omega (arith, w.low)) c.requires.2
    (w.here (omega arith)).0 in
    (beside-on (without g t) c.args.i c.loop-c.c w c.args.next.now c.from-c.result (omega arith)
    (q ∙ sym c.are_beside.ensures ∙ c.if-are_beside.false) c.requires.4 c.from-c.ensures).0

pub returns : goal.returns
returns c =
    (sym (beside_end (without c.args.gone.now c.args.t.now) c.args.i c.loop-c.c c.loop-c.invariant (omega arith)), omega arith)
