-- Old is a base file where its chain has one name,
-- and the link's first name is the cut at its place.
use mathlib.Core.Bool.{true≢false}
use borrow.Author.Tests.{eq-eqb, ne_eqb}
use Rattle.paper.specs.Request.{misbased}
use Rattle.words.specs.Place.{word_at}
use Rattle.words.proofs.Names.{names-first}
use Rattle.reader.proofs.Verdicts.{check-holds, check-passes}
use Rattle.reader.proofs.request.check_base.Goals as goal
use Rattle.reader.proofs.request.check_base.Goals.{then-count_links-ne1, else-count_links-ne1}

pub returns-then-is_legal_base : goal.returns-then-is_legal_base
returns-then-is_legal_base c =
    let args = c.args in
    let line = args.line.now in
    let n = c.count_links.result in
    let check = misbased 2 (word_at line args.old) (word_at line args.link) in
    elim c.if-count_links-ne1.branch [
      | then-count_links-ne1 w ↦ check-passes check (rw (← c.count_links.ensures, ne_eqb n 1 w.if-count_links-ne1.true))
      | else-count_links-ne1 w ↦ check-passes check
          (rw (← c.count_links.ensures, eq-eqb n 1 w.if-count_links-ne1.false, names-first line args.link)
          (rw (← w.name.ensures, ← w.is_legal_base.ensures, ← w.value-is, c.if-is_legal_base.true)))
    ]

pub returns-else-is_legal_base : goal.returns-else-is_legal_base
returns-else-is_legal_base c =
    let args = c.args in
    let line = args.line.now in
    let n = c.count_links.result in
    let check = misbased 2 (word_at line args.old) (word_at line args.link) in
    elim c.if-count_links-ne1.branch [
      | then-count_links-ne1 w ↦ let h = rw (w.value-is, ne_eqb n 1 w.if-count_links-ne1.true) at c.if-is_legal_base.false in absurd (true≢false h)
      | else-count_links-ne1 w ↦ rw c.whole.ensures (check-holds check
          (rw (← c.count_links.ensures, eq-eqb n 1 w.if-count_links-ne1.false, names-first line args.link)
          (rw (← w.name.ensures, ← w.is_legal_base.ensures, ← w.value-is, c.if-is_legal_base.false))))
    ]
