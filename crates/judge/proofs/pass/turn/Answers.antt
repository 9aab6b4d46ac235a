-- A record that goes is free, and one that stays is the table's own: its kind picks the turn, which adds it to what is known or refutes soundness.
-- A record that is all zero is of kind 0, so no test of its kind is needed.
use mathlib.Core.Bool.{true, false, cond}
use mathlib.Core.Path.{◌≡◌, sym, ap, ◌∙◌}
use Prim.Native.Nat.{◌+◌}
use native.Mathlib.Omega.{arith}
use borrow.Author.Tests.{eq-eqb, ne_eqb}
use Rattle.judge_laws.proofs.Tests.{match-then}
use Rattle.judge_laws.specs.Pass.{Passed}
use Rattle.paper.specs.Layout.{boxed}
use Rattle.paper.specs.Sound.{shaped}
use Rattle.judge.specs.declared.pass.Tally.{Tally}
use Rattle.judge_laws.specs.Mask.{without}
use Rattle.judge_laws.specs.Places.{short_at}
use Rattle.paper.specs.Record.{byte, is_kind}
use Rattle.paper.specs.Sound.{is_base}
use Rattle.paper.specs.Table.{rec}
use Rattle.judge_laws.proofs.Mask.{rec-stays}
use Rattle.judge_laws.proofs.Pass.{basing-most, free-right, refuted, refuted-heading, found}
use Rattle.judge_laws.proofs.Pass.{passed_entry, passed-other, passed-gone, passed-heading, passed-free}
use Rattle.judge_laws.proofs.TextTurns.{texts-most}
use Rattle.judge.proofs.pass.turn.Goals as goal

pub returns-then-gone-i-ne0 : goal.returns-then-gone-i-ne0
returns-then-gone-i-ne0 c =
    let g = c.args in
    passed-gone g.gone.now g.t.now c.requires.1 g.start.now g.mark.now g.counts.now.named g.counts.now.held g.buckets.now.head g.buckets.now.next
    g.s.texts g.s.bases g.s.left g.i c.requires.4 c.requires.0 c.requires.5 (ne_eqb _ _ c.if-gone-i-ne0.true)

pub entry_turn-requires : goal.entry_turn-requires
entry_turn-requires c =
    let g = c.args in (
      c.requires.0,
      c.requires.1,
      c.requires.2,
      rw (rec-stays g.gone.now g.t.now c.requires.1 g.i (eq-eqb _ _ c.if-gone-i-ne0.false))
          (eq-eqb _ _ (sym c.raw_of.ensures ∙ c.in-2.is)),
      c.requires.3,
      c.requires.5.entries,
      found g.gone.now g.t.now c.requires.1 g.counts.now.held g.i c.requires.5.entries.holding c.requires.5.right,
    )

pub overflow_add-bases : goal.overflow_add-bases
overflow_add-bases c =
    let m = basing-most (without c.args.gone.now c.args.t.now) c.args.i in
    let e = c.requires.5.based in
    omega (arith, c.base_of.ensures.1)

pub returns-in_ok-left-in-2 : goal.returns-in_ok-left-in-2
returns-in_ok-left-in-2 c =
    let g = c.args in
    let t = g.t.now in
    let k : is_kind 2 (rec (without g.gone.now t) g.i) ≡ true =
    rw (rec-stays g.gone.now t c.requires.1 g.i (eq-eqb _ _ c.if-gone-i-ne0.false)) (eq-eqb _ _ (sym c.raw_of.ensures ∙ c.in-2.is)) in
    let q : g.s.bases + c.base_of.result ≡ g.s.bases + cond (is_base (rec t g.i)) 1 0 = ap (λ m. g.s.bases + m) c.base_of.ensures.0 in
    let z = c.in_ok-left-in-2.ensures in
    passed_entry g.gone.now t c.requires.1 g.start.now g.mark.now g.counts.now.named g.counts.now.held g.buckets.now.head g.buckets.now.next
    g.s.texts g.s.bases g.s.left g.i c.requires.4 c.requires.0 c.requires.5 _ _ _ _ _ _ k z.0 z.1 q

pub text_turn-requires : goal.text_turn-requires
text_turn-requires c =
    (c.requires.0, c.requires.4, c.requires.5.text, sym c.raw_of.ensures ∙ c.in-3.is, c.if-gone-i-ne0.false)

pub overflow_add-texts : goal.overflow_add-texts
overflow_add-texts c =
    let m = texts-most (without c.args.gone.now c.args.t.now) c.args.i in
    let e = c.requires.5.texted in
    omega arith

pub returns-in-3 : goal.returns-in-3
returns-in-3 c =
    let g = c.args in
    let t = g.t.now in
    let w = without g.gone.now t in
    let k : byte (rec t g.i) 0 ≡ 3 = sym c.raw_of.ensures ∙ c.in-3.is in
    let r : rec w g.i ≡ rec t g.i = rec-stays g.gone.now t c.requires.1 g.i (eq-eqb _ _ c.if-gone-i-ne0.false) in
    let n : is_kind 2 (rec w g.i) ≡ false = rw (r, k) in
    let s : short_at w g.i ≡ true = rw (r, k) in
    let q : g.s.texts + 1 ≡ g.s.texts + cond (is_kind 3 (rec w g.i)) 1 0 = rw (r, k) in
    match-then c.text_turn.result _ c.then_some.result (shaped boxed w ≡ false)
    (λ (r : Tally). Passed g.gone.now t c.text_turn.new.mark g.counts.now.named g.counts.now.held g.buckets.now.head g.buckets.now.next
    r.texts r.bases r.left (g.i + 1))
    c.then_some.ensures
    c.text_turn.ensures.0
    (λ f. let z = c.text_turn.ensures.1 f in
    passed-other g.gone.now t c.requires.1 g.start.now g.mark.now g.counts.now.named g.counts.now.held g.buckets.now.head g.buckets.now.next
    g.s.texts g.s.bases g.s.left g.i c.requires.4 c.requires.0 c.requires.5 _ _ n z.0 s z.1 q)

pub returns-in-1 : goal.returns-in-1
returns-in-1 c =
    let g = c.args in
    let t = g.t.now in
    let k : byte (rec t g.i) 0 ≡ 1 = sym c.raw_of.ensures ∙ c.in-1.is in
    let s = eq-eqb _ _ c.if-gone-i-ne0.false in
    match-then c.heading_turn.result g.s c.then_some-in-1.result (shaped boxed (without g.gone.now t) ≡ false)
    (λ (r : Tally). Passed g.gone.now t g.mark.now g.counts.now.named g.counts.now.held g.buckets.now.head g.buckets.now.next r.texts r.bases r.left (g.i + 1))
    c.then_some-in-1.ensures
    (λ f. refuted-heading g.gone.now t c.requires.1 g.i c.requires.0 k s (sym c.heading_turn.ensures ∙ f))
    (λ f. passed-heading g.gone.now t c.requires.1 g.start.now g.mark.now g.counts.now.named g.counts.now.held g.buckets.now.head g.buckets.now.next
    g.s.texts g.s.bases g.s.left g.i c.requires.4 c.requires.0 c.requires.5 k s (sym c.heading_turn.ensures ∙ f))

pub returns-in_default : goal.returns-in_default
returns-in_default c =
    let g = c.args in
    let t = g.t.now in
    let e = c.raw_of.ensures in
    let one : byte (rec t g.i) 0 ≡ 1 → ⊥ = λ (q : byte (rec t g.i) 0 ≡ 1). omega arith in
    let two : byte (rec t g.i) 0 ≡ 2 → ⊥ = λ (q : byte (rec t g.i) 0 ≡ 2). omega arith in
    let three : byte (rec t g.i) 0 ≡ 3 → ⊥ = λ (q : byte (rec t g.i) 0 ≡ 3). omega arith in
    let s = eq-eqb _ _ c.if-gone-i-ne0.false in
    match-then c.is_free.result g.s c.then_some-in_default.result (shaped boxed (without g.gone.now t) ≡ false)
    (λ (r : Tally). Passed g.gone.now t g.mark.now g.counts.now.named g.counts.now.held g.buckets.now.head g.buckets.now.next r.texts r.bases r.left (g.i + 1))
    c.then_some-in_default.ensures
    (λ f. refuted g.gone.now t c.requires.1 g.i c.requires.0
    (free-right g.gone.now t c.requires.1 g.i c.requires.0 one two three s ∙ sym c.is_free.ensures ∙ f))
    (λ f. passed-free g.gone.now t c.requires.1 g.start.now g.mark.now g.counts.now.named g.counts.now.held g.buckets.now.head g.buckets.now.next
    g.s.texts g.s.bases g.s.left g.i c.requires.4 c.requires.0 c.requires.5 one two three s (sym c.is_free.ensures ∙ f))
