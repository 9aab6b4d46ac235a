-- As many bytes as fit take the place of those that stood there; the others would be stored past the end, where a store changes nothing.
-- So it is from a place past the end.
use mathlib.Core.Path.{◌≡◌, sym, ◌∙◌}
use Prim.Native.Nat.{◌+◌, ◌-◌}
use native.Mathlib.Omega.{arith}
use lib.ListN.{length}
use Rattle.records.proofs.Copies.{fit_length, fit-sets, sets-out, sets-put}
use Rattle.records.proofs.store.copy_in.Goals as goal

pub returns-then-at-into : goal.returns-then-at-into
returns-then-at-into c =
    let l = c.args.into.now in
    let fit = c.part-fit.result.now in
    let at = c.args.at in
    let k : length fit ≡ at + length fit - at = omega arith in
    let room = fit_length l c.args.from.now fit at c.part-fit.ensures (omega arith) in
    rw c.copy_from_slice.ensures.after (sets-put l fit at _ k (omega (arith, room)))
    ∙ fit-sets l c.args.from.now fit at c.part-fit.ensures

pub returns-else-at-into : goal.returns-else-at-into
returns-else-at-into c = sym (sets-out c.args.from.now c.args.into.now c.args.at c.if-at-into.false)
