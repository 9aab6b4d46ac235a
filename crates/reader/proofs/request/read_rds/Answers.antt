-- The count and the name come first, then the two numbers; the name is word 1, found by its place,
-- and what is granted has what the numbers give.
use Rattle.paper.specs.Octal.{part_of}
use Rattle.paper.specs.Line.{word}
use Rattle.paper.specs.Request.{rds, old_from, octal_at, read_rds}
use Rattle.reader.proofs.Verdicts.{exits}
use Rattle.reader.proofs.Functions.{from-word}
use Rattle.reader.proofs.Numbers.{name-refused, no-first, no-count, numbers-passed}
use Rattle.reader.proofs.request.read_rds.Goals as goal

pub returns-in_err-check_old : goal.returns-in_err-check_old
unfolding read_rds
returns-in_err-check_old c =
    exits _ _ c.from_residual.ensures.1 (name-refused _ c.args.line.now _ c.word_at-p.ensures c.in_err-check_old.ensures)

pub returns-in_default : goal.returns-in_default
unfolding read_rds
returns-in_default c =
    rw c.whole.ensures (no-first _ c.args.line.now _ c.word_at-p.ensures _ c.in_ok-check_old.ensures c.in_default.ensures)

pub returns-in_default-as_count : goal.returns-in_default-as_count
unfolding read_rds
returns-in_default-as_count c =
    let n = rw c.octal_at-2.ensures at c.in_default-as_count.ensures in
    rw c.whole-in_default-as_count.ensures
    (no-count _ c.args.line.now _ c.word_at-p.ensures _ c.in_ok-check_old.ensures _ c.in-Ok.ensures n)

pub returns : goal.returns
unfolding read_rds
returns c =
    let line = c.args.line.now in
    let r = rds (old_from (word line 1)) (word line 1) (part_of (octal_at line 2)) (part_of (octal_at line 3)) in
    let n = rw c.octal_at-2.ensures at c.in-Ok-as_count.ensures in
    let g = numbers-passed r line _ c.word_at-p.ensures _ c.in_ok-check_old.ensures _ _ c.in-Ok.ensures n in
    rw (from-word line _ _ c.word_at-p.ensures c.old_from.ensures, c.word_at-p.ensures, g.1.0, g.1.1) g.0
