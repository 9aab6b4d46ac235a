use mathlib.Core.Path.{sym, ◌∙◌}
use native.Mathlib.Omega.{arith}
use lib.Dec.{leb}
use Rattle.laws.proofs.Tests.{and-no-right}
use Rattle.scans.specs.Free.{free_from}
use Rattle.scans.proofs.Free.{none_before, next_here, next-none}
use Rattle.scans.proofs.Turns.{any-still}
use Rattle.scans.proofs.next_free.Goals as goal

pub loop-i-init : goal.loop-i-init
loop-i-init c =
    let a = c.args in none_before a.table.now a.from.0

pub returns-then-is_kind : goal.returns-then-is_kind
returns-then-is_kind c =
    let here = sym c.is_kind.ensures ∙ c.if-is_kind.true in
    sym (next_here c.args.table.now c.args.from.0 c.loop-i.i (omega arith) (omega arith) here c.loop-i.invariant)

pub loop-i-preserved : goal.loop-i-preserved
loop-i-preserved c =
    let i₀ = c.args.from.0 in
    let not-Free = sym c.is_kind.ensures ∙ c.if-is_kind.false in
    any-still (free_from c.args.table.now i₀) c.loop-i.i (and-no-right (leb i₀ c.loop-i.i) _ not-Free) c.loop-i.invariant

pub returns : goal.returns
returns c =
    c.rooms-n.ensures
    ∙ sym (next-none c.args.table.now c.args.from.0 c.loop-i.i (omega arith) c.loop-i.invariant)
