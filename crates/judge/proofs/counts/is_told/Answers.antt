-- What every heading says is read first, and what a directory's says only there.
-- The type is read of a heading, so it tells whether this is a directory.
use mathlib.Core.Path.{sym, ◌∙◌}
use mathlib.Core.Bool.{not}
use mathlib.Core.Path.{ap}
use borrow.Author.Tests.{eq-eqb, ne_eqb}
use Rattle.paper.specs.Record.{is_kind}
use Rattle.paper.specs.Table.{rec}
use Rattle.laws.proofs.Tests.{and_both, and-no-right}
use Rattle.records.proofs.Said.{tells-not, tells-file, tells-directory}
use Rattle.judge.proofs.counts.is_told.Goals as goal

pub returns-else-is_said : goal.returns-else-is_said
returns-else-is_said c =
    let a = c.args in
    c.if-is_said.false ∙ sym (tells-not a.named a.held (rec a.t.now a.i) (sym c.is_said.ensures ∙ c.if-is_said.false))

pub returns-then-raw_of-ne-DIRECTORY : goal.returns-then-raw_of-ne-DIRECTORY
returns-then-raw_of-ne-DIRECTORY c =
    ap not (ne_eqb _ _ c.if-raw_of-ne-DIRECTORY.true)
    ∙ sym (tells-file c.args.named c.args.held (rec c.args.t.now c.args.i)
    (sym c.is_said.ensures ∙ c.if-is_said.true)
    (and-no-right (is_kind 1 (rec c.args.t.now c.args.i)) _ (ne_eqb _ _ (λ q. c.if-raw_of-ne-DIRECTORY.true (c.raw_of.ensures ∙ q)))))

pub returns-else-raw_of-ne-DIRECTORY : goal.returns-else-raw_of-ne-DIRECTORY
returns-else-raw_of-ne-DIRECTORY c =
    c.is_said-else-raw_of-ne-DIRECTORY.ensures
    ∙ sym (tells-directory c.args.named c.args.held (rec c.args.t.now c.args.i)
    (sym c.is_said.ensures ∙ c.if-is_said.true)
    (and_both (is_kind 1 (rec c.args.t.now c.args.i)) _ c.requires.1 (eq-eqb _ _ (sym c.raw_of.ensures ∙ c.if-raw_of-ne-DIRECTORY.false))))
