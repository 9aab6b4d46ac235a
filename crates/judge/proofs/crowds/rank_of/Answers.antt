-- An entry's number is one more than that of the last entry of its place before it.
-- Without one it is the first.
use mathlib.Core.Path.{sym, ap, ◌∙◌}
use Prim.Native.Nat.{◌+◌}
use native.Mathlib.Omega.{arith}
use Rattle.judge_laws.specs.Mask.{without}
use Rattle.judge_laws.proofs.Crowds.{rank-first, rank-next}
use Rattle.judge.proofs.crowds.rank_of.Goals as goal

pub returns-then-last-eq0 : goal.returns-then-last-eq0
returns-then-last-eq0 c =
    sym (rank-first (without c.args.gone.now c.args.t.now) c.args.i c.args.last c.requires.2 c.requires.4 (omega arith))

pub returns-else-last-eq0 : goal.returns-else-last-eq0
returns-else-last-eq0 c =
    ap (λ m. m + 1) c.from.ensures ∙ sym
    (rank-next (without c.args.gone.now c.args.t.now) c.args.rank.now c.args.i c.args.last c.requires.3 c.requires.2 c.requires.4
    (omega arith))
