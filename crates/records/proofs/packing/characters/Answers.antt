use mathlib.Core.Path.{◌≡◌, refl, sym, ◌∙◌}
use native.Mathlib.Omega.{arith}
use native.Mathlib.Nat.{div-one}
use lib.ListN.{length-set}
use Rattle.records.specs.Characters.{characters}
use Rattle.records.proofs.Packed.{characters-turn, rest-turn}
use Rattle.records.proofs.packing.characters.Goals as goal

pub loop-k-init : goal.loop-k-init
unfolding characters
loop-k-init c = (refl, sym (div-one _), refl)

pub overflow_add-r : goal.overflow_add-r
overflow_add-r c = omega (arith, c.last_code.ensures.1)

pub loop-k-preserved : goal.loop-k-preserved
loop-k-preserved c =
    let d = c.last_code in
    let v = c.loop-k in
    let x = c.args.x in (
      characters-turn v.r x v.rest v.k (omega arith) (omega arith) v.invariant.1 d.result v.invariant.2 d.ensures.0 v.invariant.0,
      c.shifted_out-rest.ensures ∙ rest-turn v.r x v.rest v.k (omega arith) (omega arith) v.invariant.1,
      rw length-set v.invariant.2,
    )

pub returns : goal.returns
returns c =
    let v = c.loop-k in
    let e : v.k ≡ 0 = omega arith in
    rw e at v.invariant.0
