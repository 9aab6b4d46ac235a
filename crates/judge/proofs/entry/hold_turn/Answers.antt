-- An entry of a base file stands in no directory; any other makes one more in its own, and no other changes.
-- A directory that holds 112 before it is crowded with it.
use mathlib.Core.Bool.{false, true≢false}
use mathlib.Core.Path.{◌≡◌, refl, sym, ap, ◌∙◌}
use Prim.Native.Nat.{◌+◌, ◌<◌}
use native.Mathlib.Omega.{arith}
use lib.ListN.{get_or}
use borrow.Author.Tests.{eq-eqb, ne_eqb}
use Rattle.judge_laws.specs.Mask.{without}
use Rattle.judge_laws.proofs.Mask.{rooms-without, rec-entry}
use Rattle.judge_laws.proofs.Pass.{held-base, held_more, held-full}
use Rattle.paper.specs.Record.{holder_of}
use Rattle.paper.specs.Sound.{is_base}
use Rattle.paper.specs.Table.{rec}
use Rattle.judge.proofs.entry.hold_turn.Goals as goal

pub returns-then-d-eq-BASE : goal.returns-then-d-eq-BASE
returns-then-d-eq-BASE c = (
  λ f. absurd (true≢false f),
  λ f. held-base (without c.args.gone.now c.args.t.now) c.args.i c.requires.1 c.args.held.now c.requires.3
      (rw (rec-entry c.args.gone.now c.args.t.now c.args.i c.requires.0 c.requires.1)
      (eq-eqb _ _ (sym c.two_of-d.ensures.0 ∙ c.if-d-eq-BASE.true))),
)

pub bounds-held-d : goal.bounds-held-d
bounds-held-d c =
    let b : is_base (rec c.args.t.now c.args.i) ≡ false = ne_eqb _ _ (λ q. c.if-d-eq-BASE.false (c.two_of-d.ensures.0 ∙ q)) in
    let z = (c.requires.2 b).0 in
    omega arith

pub returns-then-m : goal.returns-then-m
returns-then-m c =
    let b : is_base (rec c.args.t.now c.args.i) ≡ false = ne_eqb _ _ (λ q. c.if-d-eq-BASE.false (c.two_of-d.ensures.0 ∙ q)) in
    let g = c.args.gone.now in
    let t = c.args.t.now in
    let q = rec-entry g t c.args.i c.requires.0 c.requires.1 in
    let z = c.requires.2 b in (
      λ f. held-full (without g t) c.args.i c.requires.1 (rw q z.1) c.args.held.now c.requires.3 (rw q b) (rw q z.0)
          (rw (rooms-without g t) c.requires.0) (rw (q, ← c.two_of-d.ensures.0) c.if-m.true),
      λ f. absurd (true≢false (sym f)),
    )

pub bounds-held-d-2 : goal.bounds-held-d-2
bounds-held-d-2 c =
    let b : is_base (rec c.args.t.now c.args.i) ≡ false = ne_eqb _ _ (λ q. c.if-d-eq-BASE.false (c.two_of-d.ensures.0 ∙ q)) in
    let z = (c.requires.2 b).0 in
    omega arith

pub returns : goal.returns
returns c =
    let g = c.args.gone.now in
    let t = c.args.t.now in
    let q : rec (without g t) c.args.i ≡ rec t c.args.i = rec-entry g t c.args.i c.requires.0 c.requires.1 in
    let r = rec (without g t) c.args.i in
    let held = c.args.held.now in
    let b : is_base (rec t c.args.i) ≡ false = ne_eqb _ _ (λ q. c.if-d-eq-BASE.false (c.two_of-d.ensures.0 ∙ q)) in
    let z = c.requires.2 b in
    let m : get_or held c.two_of-d.result 0 < 112 = omega arith in (
      λ f. absurd (true≢false f),
      λ f. rw (c.two_of-d.ensures.0 ∙ ap holder_of (sym q)) (held_more (without g t) c.args.i c.requires.1 (rw q z.1) held (get_or held (holder_of r) 0 + 1)
          c.requires.3 (rw q z.0) refl (rw (q, ← c.two_of-d.ensures.0) m)),
    )
