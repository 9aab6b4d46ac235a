-- The last link's number is the length of the chain, which is small:
-- the line is short.
use native.Mathlib.Omega.{arith}
use Rattle.elephant.proofs.Links.{chain-few}
use Rattle.elephant.proofs.place.Chain.end.Goals as goal

pub at_link-requires : goal.at_link-requires
at_link-requires c =
    let a = c.args in
    omega (arith, c.last_link.ensures, chain-few a.line.now c.requires a.self.at a.self.begin)
