use mathlib.Core.Bool.{true, false}
use mathlib.Core.Logic.{◌≢◌, by_cases}
use mathlib.Core.Path.{◌≡◌, sym, ◌∙◌}
use Prim.Native.Nat.{◌+◌, ◌<◌}
use native.Mathlib.Omega.{arith}
use native.Mathlib.Decide.{ℕ_discrete}
use lib.ListN.{length, length-set}
use lib.Seq.{get_or-set_same, get_or-set_other}
use borrow.Author.Count.{below_none}
use Rattle.judge_laws.specs.Mask.{without}
use Rattle.judge_laws.specs.Places.{starts}
use Rattle.paper.specs.Record.{is_kind}
use Rattle.paper.specs.Table.{rooms, rec}
use Rattle.judge_laws.proofs.Mask.{length_without, rooms-without, whole-without}
use Rattle.judge_laws.proofs.Pass.{refuted-slots}
use Rattle.judge_laws.proofs.TextTurns.{starts_none, starts_more}
use Rattle.laws.proofs.Tests.{not-both}
use Rattle.judge.proofs.text.lay_out.Goals as goal
use Rattle.judge.proofs.text.lay_out.Goals.{then-is_heading+else-n-slots, else-is_heading}

pub loop-h-init : goal.loop-h-init
loop-h-init c =
    let g = c.args in
    let t = without g.gone.now g.t.now in
    (sym (starts_none t), omega arith, omega arith, below_none _)

pub overflow_add-slots : goal.overflow_add-slots
overflow_add-slots c = omega arith

pub overflow_cast-start : goal.overflow_cast-start
overflow_cast-start c = omega arith

pub returns-then-n-slots : goal.returns-then-n-slots
returns-then-n-slots c =
    let g = c.args in
    let h = c.loop-h.h in
    let a = starts_more (without g.gone.now g.t.now) h in (
      λ f. refuted-slots g.gone.now g.t.now (omega arith) h (omega arith) (omega arith),
      λ f. let z : ⊥ = omega arith in absurd z,
    )

pub loop-h-preserved : goal.loop-h-preserved
loop-h-preserved c =
    let g = c.args in
    let t = without g.gone.now g.t.now in
    let i = c.loop-h.h in
    let s = c.loop-h.start in
    let l : i < length s = omega arith in
    let m = starts_more t i in
    elim c.if-is_heading.branch [
      | then-is_heading+else-n-slots w ↦
          let k : is_kind 1 (rec t i) ≡ true = sym c.is_heading.ensures ∙ w.if-is_heading.true in
          rw (w.start-is, w.slots-is) (
            omega arith,
            omega arith,
            rw length-set c.loop-h.invariant.2,
            λ h b q.
                by_cases (ℕ_discrete h i)
                (λ (e : h ≡ i). rw e (get_or-set_same s i c.loop-h.slots 0 l ∙ c.loop-h.invariant.0))
                (λ (e : h ≢ i). get_or-set_other s i h c.loop-h.slots 0 e ∙ c.loop-h.invariant.3 h (omega arith) q),
          )
      | else-is_heading w ↦
          let k : is_kind 1 (rec t i) ≡ false = sym c.is_heading.ensures ∙ w.if-is_heading.false in
          let n : starts t (i + 1) ≡ starts t i + 0 = m ∙ rw k in
          rw (w.start-is, w.slots-is) (
            omega arith,
            omega arith,
            c.loop-h.invariant.2,
            λ h b q.
                by_cases (ℕ_discrete h i)
                (λ (e : h ≡ i). absurd (not-both (rw e at q) k))
                (λ (e : h ≢ i). c.loop-h.invariant.3 h (omega arith) q),
          )
    ]

pub returns : goal.returns
returns c =
    let g = c.args in
    let t = without g.gone.now g.t.now in
    let q : rooms t ≡ rooms g.t.now = rooms-without g.gone.now g.t.now in
    let e : c.loop-h.h ≡ rooms g.t.now = omega arith in
    let x : c.loop-h.slots ≡ starts t (rooms g.t.now) = rw (← e) c.loop-h.invariant.0 in (
      λ f. let z : ⊥ = omega arith in absurd z,
      λ f. (
        record {
          whole = whole-without g.gone.now g.t.now (omega arith);
          small = rw (length_without g.gone.now g.t.now) (omega arith);
          room = rw (q, ← x) (omega arith);
          at = λ h k. c.loop-h.invariant.3 h (omega arith);
        },
        x,
      ),
    )
