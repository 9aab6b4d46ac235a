-- An entry that is not right, that its directory may not hold, or that has a twin before it refutes soundness.
-- Else it is counted for its heading and its directory and put into its chain: the entries judged are one more.
use mathlib.Core.Bool.{true}
use mathlib.Core.Path.{◌≡◌, sym, ◌∙◌}
use native.Mathlib.Omega.{arith}
use borrow.Author.Count.{below_more}
use Rattle.judge_laws.specs.Mask.{without}
use Rattle.judge_laws.specs.Shapes.{entry_right}
use Rattle.paper.specs.Table.{rec}
use Rattle.judge_laws.proofs.Pass.{entry-names, entry-stands, refuted-entry, refuted-twin}
use Rattle.judge_laws.proofs.Sound.{shaped-not-crowded}
use Rattle.judge_laws.proofs.Tests.{match-map}
use Rattle.judge.proofs.entry.entry_turn.Goals as goal
use Rattle.judge.proofs.entry.entry_turn.Goals.{then-not-is_entry_right-via-then-not-is_entry_right}
use Rattle.judge.proofs.entry.entry_turn.Goals.{then-not-is_entry_right-via-else-not-is_entry_right+then-not-hold_turn}

pub is_entry_right-requires : goal.is_entry_right-requires
is_entry_right-requires c =
    (c.requires.0, c.requires.1, c.requires.2, c.requires.4, c.requires.6)

pub returns-then-not-is_entry_right : goal.returns-then-not-is_entry_right
returns-then-not-is_entry_right c =
    elim c.then-not-is_entry_right.branch [
      | then-not-is_entry_right-via-then-not-is_entry_right w ↦
          refuted-entry c.args.gone.now c.args.t.now c.requires.1 c.args.i c.requires.0 c.requires.3
          (sym c.is_entry_right.ensures ∙ w.if-not-is_entry_right.true)
      | then-not-is_entry_right-via-else-not-is_entry_right+then-not-hold_turn w ↦
          shaped-not-crowded (without c.args.gone.now c.args.t.now) (w.hold_turn.ensures.0 w.if-not-hold_turn.true)
    ]

pub hold_turn-requires : goal.hold_turn-requires
hold_turn-requires c =
    let t = c.args.t.now in
    let e : entry_right (without c.args.gone.now t) (rec t c.args.i) ≡ true = sym c.is_entry_right.ensures
    ∙ c.if-not-is_entry_right.false in (
      c.requires.0,
      c.requires.3,
      λ b. let z = entry-stands c.args.gone.now t c.requires.1 (rec t c.args.i) e b in (omega (arith, z.0), z.1),
      c.requires.5.holding,
    )

pub name_turn-requires : goal.name_turn-requires
name_turn-requires c =
    let t = c.args.t.now in
    let e : entry_right (without c.args.gone.now t) (rec t c.args.i) ≡ true = sym c.is_entry_right.ensures
    ∙ c.if-not-is_entry_right.false in
    let z = entry-names c.args.gone.now t c.requires.1 (rec t c.args.i) e in
    (c.requires.0, c.requires.2, c.requires.3, omega arith, c.requires.5.naming)

pub chain_turn-requires : goal.chain_turn-requires
chain_turn-requires c =
    (c.requires.0, c.requires.2, c.requires.3, c.requires.5.chains)

pub returns : goal.returns
returns c =
    let t = c.args.t.now in
    let u = without c.args.gone.now t in
    let e : entry_right u (rec t c.args.i) ≡ true = sym c.is_entry_right.ensures ∙ c.if-not-is_entry_right.false in
    match-map c.chain_turn.result _ _ _ _
    (refuted-twin c.args.gone.now t c.requires.1 c.args.i c.requires.0)
    (λ steps z. (
      e,
      record {
        single = λ l. below_more _ _ (c.requires.5.single (omega (arith, z.2))) (z.0 l);
        naming = c.name_turn.ensures;
        holding = c.hold_turn.ensures.1 (c.if-not-hold_turn.false);
        chains = z.1;
      },
    ))
    c.chain_turn.ensures
