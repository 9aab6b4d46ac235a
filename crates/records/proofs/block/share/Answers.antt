-- What is left from the position's place on, at most a block, is its share,
-- also where the place is no number of the machine, since nothing is left there.
use mathlib.Core.Path.{◌≡◌, ◌∙◌}
use Prim.Native.Nat.{◌*◌, ◌-◌, min}
use native.Mathlib.Omega.{arith}
use Rattle.records.proofs.Shares.{share-left}
use Rattle.records.proofs.block.share.Goals as goal

pub returns : goal.returns
returns c =
    let n = c.args.length.0 in
    let p = c.args.position.0 in
    let e : c.min.result ≡ min (n - p * 24) 24 = omega (arith, c.min.ensures, c.saturating_sub.ensures, c.saturating_mul-before.ensures) in
    e ∙ share-left n p
