use mathlib.Core.Bool.{Bool}
use mathlib.Core.Path.{sym, ap, ◌∙◌}
use Prim.Native.Nat.{ℕ}
use native.Mathlib.Omega.{arith}
use Rattle.paper.specs.Layout.{unpacked, boxed}
use Rattle.paper.specs.Table.{rooms, rec}
use Rattle.paper.specs.Entry.{bears, find}
use Rattle.laws.proofs.Scans.{first-here, first-none}
use Rattle.records.specs.Shown.{holder_shown}
use Rattle.scans.specs.Shown.{found_shown}
use Rattle.scans.proofs.Turns.{any-start, any-still, any-shorter}
use Rattle.scans.proofs.find_number.Goals as goal

pub loop-i-init : goal.loop-i-init
loop-i-init c = any-start (λ j. bears boxed (holder_shown c.args.d) (unpacked c.args.number) (rec c.args.table.now j))

pub returns-then-bears_here : goal.returns-then-bears_here
unfolding find
returns-then-bears_here c =
    let p : ℕ → Bool = λ j. bears boxed (holder_shown c.args.d) (unpacked c.args.number) (rec c.args.table.now j) in
    let here = sym c.bears_here.ensures ∙ c.if-bears_here.true in
    sym (ap found_shown (first-here p (rooms c.args.table.now) c.loop-i.i (omega arith) here c.loop-i.invariant))

pub loop-i-preserved : goal.loop-i-preserved
loop-i-preserved c =
    let p : ℕ → Bool = λ j. bears boxed (holder_shown c.args.d) (unpacked c.args.number) (rec c.args.table.now j) in
    any-still p c.loop-i.i (sym c.bears_here.ensures ∙ c.if-bears_here.false) c.loop-i.invariant

pub returns : goal.returns
unfolding find
returns c =
    let p : ℕ → Bool = λ j. bears boxed (holder_shown c.args.d) (unpacked c.args.number) (rec c.args.table.now j) in
    let n : ℕ = rooms c.args.table.now in
    sym (ap found_shown (first-none p n (any-shorter p n c.loop-i.i (omega arith) c.loop-i.invariant)))
