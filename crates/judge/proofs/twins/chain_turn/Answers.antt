-- An entry without a twin is put in front of its bucket, and the chains are those of one entry more.
-- A twin refutes the test, and a refusing turn owes no chains; with no step left nothing is owed but that the arrays keep their lengths.
use mathlib.Core.Bool.{false}
use mathlib.Core.Path.{◌≡◌, sym, ap, ◌∙◌}
use Prim.Native.Nat.{◌<◌}
use native.Mathlib.Omega.{arith}
use lib.ListN.{length-set}
use Rattle.judge_laws.specs.Chains.{last_in}
use Rattle.judge_laws.specs.Mask.{without}
use Rattle.judge_laws.specs.Twins.{twin_to, hash_of}
use Rattle.paper.specs.Scan.{any_below}
use Rattle.paper.specs.Table.{rec}
use Rattle.judge_laws.proofs.Chains.{chains-entry}
use Rattle.judge_laws.proofs.Mask.{rec-entry}
use Rattle.judge_laws.proofs.Twins.{hash-below}
use Rattle.judge.proofs.twins.chain_turn.Goals as goal

pub returns-then-left-eq0 : goal.returns-then-left-eq0
returns-then-left-eq0 c = (
  λ l. let z : ⊥ = omega arith in absurd z,
  record { chains = λ l. let z : ⊥ = omega arith in absurd z; head_long = c.requires.3.head_long; next_long = c.requires.3.next_long },
  omega arith,
)

pub twin_before-requires : goal.twin_before-requires
twin_before-requires c =
    let t = without c.args.gone.now c.args.t.now in
    let q = rec-entry c.args.gone.now c.args.t.now c.args.i c.requires.0 c.requires.2 in
    let b = c.hash_of-h.ensures.0 ∙ ap hash_of (sym q) in
    let h = c.requires.3.chains (omega arith) in (
      omega arith,
      omega arith,
      c.requires.2,
      c.from.ensures ∙ h.heads c.hash_of-h.result (omega arith) ∙ ap (λ b. last_in hash_of t b c.args.i) b,
      h.nexts,
    )

pub returns : goal.returns
returns c =
    let w = c.in_ok-rest.ensures in
    let t = without c.args.gone.now c.args.t.now in
    let q = rec-entry c.args.gone.now c.args.t.now c.args.i c.requires.0 c.requires.2 in
    let b = c.hash_of-h.ensures.0 ∙ ap hash_of (sym q) in
    let none : 0 < c.in_ok-rest.rest → any_below (twin_to t c.args.i) c.args.i ≡ false = w.0 in (
      λ l. rw (c.requires.2, none l),
      record {
        chains = λ l. rw b
            (chains-entry hash_of t c.args.buckets.now.head c.args.buckets.now.next c.args.i (c.requires.3.chains (omega arith)) (hash-below (rec t c.args.i))
            (omega arith) c.requires.2);
        head_long = rw length-set c.requires.3.head_long;
        next_long = rw length-set c.requires.3.next_long;
      },
      w.1,
    )
