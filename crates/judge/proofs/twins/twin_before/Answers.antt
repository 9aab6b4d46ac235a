use mathlib.Core.Path.{sym, ◌∙◌}
use Prim.Native.Nat.{◌-◌, ◌<◌}
use native.Mathlib.Omega.{arith}
use Rattle.judge_laws.specs.Mask.{without}
use Rattle.judge_laws.specs.Twins.{twin}
use Rattle.paper.specs.Table.{rooms}
use Rattle.judge_laws.proofs.Mask.{rec-entry, entries-without}
use Rattle.judge_laws.proofs.Twins.{twin-start, twin-end, twin-found, twin-on}
use Rattle.judge.proofs.twins.twin_before.Goals as goal

pub loop-c-init : goal.loop-c-init
loop-c-init c =
    (twin-start (without c.args.gone.now c.args.t.now) c.args.i c.args.first c.requires.3, omega arith)

pub returns-then-left-lt2 : goal.returns-then-left-lt2
returns-then-left-lt2 c = (λ l. let z : ⊥ = omega arith in absurd z, omega arith)

pub are_twins-requires : goal.are_twins-requires
are_twins-requires c =
    let k = (c.loop-c.invariant.0.here (omega arith)).0 in
    let b : c.loop-c.c - 1 < rooms c.args.t.now = omega (arith, c.loop-c.invariant.0.low) in
    (omega arith, b, rw (← rec-entry c.args.gone.now c.args.t.now (c.loop-c.c - 1) b k) k)

pub returns-then-are_twins : goal.returns-then-are_twins
returns-then-are_twins c =
    let g = c.args.gone.now in
    let t = c.args.t.now in
    let w = c.loop-c.invariant.0 in
    let q = entries-without g t twin c.args.i (c.loop-c.c - 1) c.requires.0 (omega (arith, w.low)) c.requires.2 (w.here (omega arith)).0 in
    twin-found (without g t) c.args.i c.loop-c.c w (omega arith) (q ∙ sym c.are_twins.ensures ∙ c.if-are_twins.true)

pub bounds-next-c : goal.bounds-next-c
bounds-next-c c =
    omega (arith, c.loop-c.invariant.0.low, c.requires.4.long)

pub loop-c-smaller : goal.loop-c-smaller
loop-c-smaller c =
    let g = c.args.gone.now in
    let t = c.args.t.now in
    let w = c.loop-c.invariant.0 in
    let q = entries-without g t twin c.args.i (c.loop-c.c - 1) c.requires.0 (omega (arith, w.low)) c.requires.2 (w.here (omega arith)).0 in
    (twin-on (without g t) c.args.i c.loop-c.c w c.args.next.now c.from-c.result (omega arith)
    (q ∙ sym c.are_twins.ensures ∙ c.if-are_twins.false) c.requires.4 c.from-c.ensures).1

pub loop-c-preserved : goal.loop-c-preserved
loop-c-preserved c =
    let g = c.args.gone.now in
    let t = c.args.t.now in
    let w = c.loop-c.invariant.0 in
    let q = entries-without g t twin c.args.i (c.loop-c.c - 1) c.requires.0 (omega (arith, w.low)) c.requires.2 (w.here (omega arith)).0 in (
      (twin-on (without g t) c.args.i c.loop-c.c w c.args.next.now c.from-c.result (omega arith)
          (q ∙ sym c.are_twins.ensures ∙ c.if-are_twins.false) c.requires.4 c.from-c.ensures).0,
      omega arith,
    )

pub returns : goal.returns
returns c = (
  λ l. twin-end (without c.args.gone.now c.args.t.now) c.args.i c.loop-c.c c.loop-c.invariant.0 (omega arith),
  omega arith,
)
