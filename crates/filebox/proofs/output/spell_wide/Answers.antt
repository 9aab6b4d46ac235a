-- The digits are laid from the place on, and the byte after them:
-- there are at most twenty, so all of it is inside.
use native.Mathlib.Omega.{arith}
use mathlib.Core.Path.{refl}
use Rattle.filebox.proofs.Spelling.{few-digits, spelled}
use Rattle.filebox.proofs.output.spell_wide.Goals as goal

pub overflow_add-e : goal.overflow_add-e
overflow_add-e c =
    omega (arith, few-digits c.args.n c.decimal-k.result (omega arith) c.decimal-k.ensures.len)

pub bounds-out-e : goal.bounds-out-e
bounds-out-e c =
    omega (arith, few-digits c.args.n c.decimal-k.result (omega arith) c.decimal-k.ensures.len)

pub overflow_add-result : goal.overflow_add-result
overflow_add-result c =
    omega (arith, few-digits c.args.n c.decimal-k.result (omega arith) c.decimal-k.ensures.len)

pub returns : goal.returns
returns c =
    let a = c.args in
    spelled a.out.now _ _ _ a.at a.n a.after c.decimal-k.result c.requires
    (few-digits a.n c.decimal-k.result (omega arith) c.decimal-k.ensures.len)
    (omega arith) c.decimal-k.ensures.len c.decimal-k.ensures.digits c.copy_in.ensures refl
