-- A law for each return: what the judge or `is_true` refuses is refused, what passes both is of fit size, sound and with its true index.
-- Then the stores are those of the sweep, cut or all of them; done, the list is repaired, or as lent where nothing was stored.
use mathlib.Core.Path.{ap}
use mathlib.Core.Bool.{not}
use native.Mathlib.Omega.{arith}
use Rattle.judge.proofs.Numbers.{judged-none}
use Rattle.sweep.proofs.Answers.{fits, answers-judged, answers-26, answers-cut, answers-still, answers-repaired}
use Rattle.sweep.proofs.sweep.Goals as goal

pub returns-in-Ok : goal.returns-in-Ok
returns-in-Ok c =
    let n = c.in-Ok.ensures {u = tt} in
    answers-judged _ _ _ c.judge.result c.judge.ensures (λ z. omega (arith, n.1)) _ (rw (c.whole.ensures, n.0) at c.from.ensures)

pub returns-then-not-is_true : goal.returns-then-not-is_true
returns-then-not-is_true c =
    let none = judged-none _ c.judge.result c.judge.ensures (c.in_default.ensures {u = tt}) in
    answers-26 _ _ _ _ c.judge.ensures none _ c.is_true.ensures (ap not c.if-not-is_true.true) _
    (rw c.whole-then-not-is_true.ensures at c.from-then-not-is_true.ensures)

pub store_sweep-needed-requires : goal.store_sweep-needed-requires
store_sweep-needed-requires c =
    let none = judged-none _ c.judge.result c.judge.ensures (c.in_default.ensures {u = tt}) in
    (fits _ _ _ c.judge.ensures none _ c.is_true.ensures (ap not c.if-not-is_true.false)).sized

pub returns-then-stop-needed : goal.returns-then-stop-needed
returns-then-stop-needed c =
    let none = judged-none _ c.judge.result c.judge.ensures (c.in_default.ensures {u = tt}) in
    let f = fits _ _ _ c.judge.ensures none _ c.is_true.ensures (ap not c.if-not-is_true.false) in
    answers-cut _ _ _ f _ _ c.store_sweep-needed.ensures.0 c.if-stop-needed.true _ (rw c.from-then-stop-needed.ensures at c.placeless.ensures)

pub returns-then-needed-ne0 : goal.returns-then-needed-ne0
returns-then-needed-ne0 c =
    let none = judged-none _ c.judge.result c.judge.ensures (c.in_default.ensures {u = tt}) in
    let f = fits _ _ _ c.judge.ensures none _ c.is_true.ensures (ap not c.if-not-is_true.false) in
    answers-repaired _ _ _ f _ _ c.store_sweep-needed.ensures.0 c.if-stop-needed.false _ c.placeless-done.ensures _ c.repair.ensures.1

pub returns-else-needed-ne0 : goal.returns-else-needed-ne0
returns-else-needed-ne0 c =
    let none = judged-none _ c.judge.result c.judge.ensures (c.in_default.ensures {u = tt}) in
    let f = fits _ _ _ c.judge.ensures none _ c.is_true.ensures (ap not c.if-not-is_true.false) in
    answers-still _ _ _ f _ _ c.store_sweep-needed.ensures.0 c.if-stop-needed.false _ c.placeless-done.ensures c.if-needed-ne0.false
