-- Each record is asked in turn, and is one more for the record that it is counted for;
-- no count is more than the records asked, so that none overflows.
use mathlib.Core.Path.{◌≡◌, refl, ◌∙◌}
use native.Mathlib.Omega.{arith}
use borrow.Author.Tests.{ne_eqb}
use Rattle.std.proofs.Common.{Some, None}
use Rattle.effects.proofs.Tallies.{tally-none, tally-past, tally-one, few-more, few-none}
use Rattle.effects.proofs.numbers.count_first.Goals as goal
use Rattle.effects.proofs.numbers.count_first.Goals.{then-room-lt-MOST, else-room-lt-MOST}

pub loop-i-init : goal.loop-i-init
loop-i-init g c = rw c.requires.2 (record { counted = λ is x. tally-none is 2048 refl; few = few-none 2048 })

pub loop-i-preserved-in_default : goal.loop-i-preserved-in_default
loop-i-preserved-in_default g c =
    let i = c.loop-i.i in
    let v = c.loop-i.invariant in record {
      counted = λ is x. tally-past is _ i (x i None (omega arith) c.in_default.ensures) (v.counted is (λ j r l p. x j r (omega arith) p));
      few = λ h. omega (arith, v.few h);
    }

pub overflow_add-counts : goal.overflow_add-counts
overflow_add-counts g c = let m = c.loop-i.invariant.few c.in-Some.room.0 in omega (arith, c.requires.1)

pub loop-i-preserved : goal.loop-i-preserved
loop-i-preserved g c =
    let i = c.loop-i.i in
    let a = c.loop-i.counts in
    let k = c.in-Some.room in
    let v = c.loop-i.invariant in
    elim c.if-room-lt-MOST.branch [
      | then-room-lt-MOST w ↦ record {
        counted = λ is x. rw w.counts-is
            (tally-one is a i k.0 _ k refl w.if-room-lt-MOST.true (x i (Some k) (omega arith) c.in-Some.ensures) refl
            (v.counted is (λ j r l p. x j r (omega arith) p)));
        few = rw w.counts-is (few-more a i k.0 _ (omega arith) refl v.few);
      }
      | else-room-lt-MOST w ↦ record {
        counted = λ is x. rw w.counts-is
            (tally-past is a i
            (λ h l. x i (Some k) (omega arith) c.in-Some.ensures h l ∙ ne_eqb k.0 h (λ (z : k.0 ≡ h). omega arith))
            (v.counted is (λ j r l p. x j r (omega arith) p)));
        few = rw w.counts-is (λ h. omega (arith, v.few h));
      }
    ]

pub returns : goal.returns
returns g c = λ is x.
    let e : c.loop-i.i ≡ c.args.n = omega arith in
    rw e at (c.loop-i.invariant.counted is (λ j r l p. x j r (omega arith) p))
