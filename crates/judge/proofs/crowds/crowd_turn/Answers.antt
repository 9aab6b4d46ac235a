-- An entry within the limit is put in front of its bucket with its number, and the chains are those of one entry more.
-- One past the limit refutes the test, and a refusing turn owes no chains.
use mathlib.Core.Bool.{true, false, true≢false}
use mathlib.Core.Path.{◌≡◌, sym, ap, ◌∙◌}
use native.Mathlib.Omega.{arith}
use borrow.Author.Tests.{le-leb, lt-leb}
use Rattle.judge_laws.specs.Chains.{last_in}
use Rattle.judge_laws.specs.Mask.{without}
use Rattle.judge_laws.specs.Crowds.{place_of, rank_of, roomy}
use Rattle.paper.specs.Entry.{holder, limit}
use Rattle.paper.specs.Record.{is_kind}
use Rattle.paper.specs.Table.{rec}
use Rattle.judge_laws.proofs.Chains.{chains-other, chains-entry}
use Rattle.judge_laws.proofs.Mask.{rec-entry}
use Rattle.judge_laws.proofs.Crowds.{bucket-below, ranked-other, ranked-entry}
use Rattle.judge.proofs.crowds.crowd_turn.Goals as goal

pub returns-then-not-is_entry : goal.returns-then-not-is_entry
returns-then-not-is_entry c =
    let t = without c.args.gone.now c.args.t.now in
    let k : is_kind 2 (rec t c.args.i) ≡ false = sym c.is_entry.ensures ∙ c.if-not-is_entry.true in
    let e : roomy t c.args.i ≡ true = rw k in (
      sym e,
      λ f. (
        chains-other place_of t c.args.buckets.now.head c.args.buckets.now.next c.args.i c.requires.2 k,
        ranked-other t c.args.rank.now c.args.i c.requires.3 k,
      ),
    )

pub last_beside-last-requires : goal.last_beside-last-requires
last_beside-last-requires c =
    let t = without c.args.gone.now c.args.t.now in
    let k = sym c.is_entry.ensures ∙ c.if-not-is_entry.false in
    let q = rec-entry c.args.gone.now c.args.t.now c.args.i c.requires.0 k in
    let b = c.place_of-h.ensures.0 ∙ ap place_of (sym q) in (
      omega arith,
      omega arith,
      k,
      c.from.ensures ∙ c.requires.2.heads c.place_of-h.result (omega arith) ∙ ap (λ b. last_in place_of t b c.args.i) b,
      c.requires.2.nexts,
    )

pub rank_of-m-requires : goal.rank_of-m-requires
rank_of-m-requires c = (
  omega arith,
  omega arith,
  sym c.is_entry.ensures ∙ c.if-not-is_entry.false,
  c.requires.3,
  c.last_beside-last.ensures.0,
  c.last_beside-last.ensures.1,
)

pub returns-then-limit_of-m : goal.returns-then-limit_of-m
returns-then-limit_of-m c =
    let t = without c.args.gone.now c.args.t.now in
    let k : is_kind 2 (rec t c.args.i) ≡ true = sym c.is_entry.ensures ∙ c.if-not-is_entry.false in
    let q = rec-entry c.args.gone.now c.args.t.now c.args.i c.requires.0 k in
    let e : roomy t c.args.i ≡ false = rw (k, lt-leb (rank_of t c.args.i) (limit (holder (rec t c.args.i))) (rw q (omega arith))) in
    (sym e, λ f. absurd (true≢false (sym f)))

pub returns : goal.returns
returns c =
    let t = without c.args.gone.now c.args.t.now in
    let k : is_kind 2 (rec t c.args.i) ≡ true = sym c.is_entry.ensures ∙ c.if-not-is_entry.false in
    let q = rec-entry c.args.gone.now c.args.t.now c.args.i c.requires.0 k in
    let e : roomy t c.args.i ≡ true = rw (k, le-leb (rank_of t c.args.i) (limit (holder (rec t c.args.i))) (rw q (omega arith))) in (
      sym e,
      λ f. (
        rw (c.place_of-h.ensures.0 ∙ ap place_of (sym q)) (chains-entry place_of t c.args.buckets.now.head c.args.buckets.now.next c.args.i c.requires.2
            (bucket-below (rec t c.args.i)) (omega arith) k),
        ranked-entry t c.args.rank.now c.args.i c.requires.3 (omega arith) c.rank_of-m.result c.rank_of-m.ensures,
      ),
    )
