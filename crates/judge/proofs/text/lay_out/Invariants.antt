-- The sum so far is where the next heading's slots start, and no other record asks for any.
-- Text is as much as is asked for in a sound table and no more than the records, and sums only grow, so too many slots refute soundness.
use mathlib.Core.Bool.{true}
use mathlib.Core.Path.{◌≡◌}
use Prim.Native.Nat.{ℕ, ◌≤◌, ◌<◌}
use lib.ListN.{length, get_or}
use Rattle.judge_laws.specs.Mask.{without}
use Rattle.judge_laws.specs.Places.{starts}
use Rattle.paper.specs.Record.{is_kind}
use Rattle.paper.specs.Table.{rec}
use Rattle.judge.proofs.text.lay_out.Given as goal

abbrev pub invariant-loop-h : goal.invariant-loop-h
invariant-loop-h l = (l.slots ≡ starts (without l.gone l.t) l.h)
    × (l.slots ≤ l.n)
    × (length l.start ≡ 2048)
    × ((h : ℕ) → h < l.h → is_kind 1 (rec (without l.gone l.t) h) ≡ true → get_or l.start h 0 ≡ starts (without l.gone l.t) h)
