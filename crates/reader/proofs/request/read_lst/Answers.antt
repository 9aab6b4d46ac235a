-- A lone point is known by its place; with it the count decides,
-- and else the count and the name.
use mathlib.Core.Path.{refl}
use Rattle.paper.specs.Request.{read_lst}
use Rattle.reader.proofs.Verdicts.{read-refused, read-passed, old-form, exits}
use Rattle.reader.proofs.Functions.{lone-point, from-word}
use Rattle.reader.proofs.request.read_lst.Goals as goal

pub returns-in_err-check_count : goal.returns-in_err-check_count
unfolding read_lst
returns-in_err-check_count c =
    let line = c.args.line.now in
    let f = lone-point line _ _ _ c.word_at-p.ensures c.lone_word.ensures c.if-are_same.ensures in
    rw f (exits _ _ c.from_residual.ensures.1 (read-refused _ _ c.in_err-check_count.ensures))

pub returns-then-are_same : goal.returns-then-are_same
unfolding read_lst
returns-then-are_same c =
    let line = c.args.line.now in
    let f = lone-point line _ _ _ c.word_at-p.ensures c.lone_word.ensures c.if-are_same.ensures in
    rw f (read-passed _ _ c.in_ok-check_count.ensures refl)

pub returns-in_err-check_old : goal.returns-in_err-check_old
unfolding read_lst
returns-in_err-check_old c =
    let line = c.args.line.now in
    let f = lone-point line _ _ _ c.word_at-p.ensures c.lone_word.ensures c.if-are_same.ensures in
    let e = old-form 1 1 line _ _ c.word_at-p.ensures c.in_err-check_old.ensures in
    rw f (exits _ _ c.from_residual-in_err-check_old.ensures.1 (read-refused _ _ e))

pub returns : goal.returns
unfolding read_lst
returns c =
    let line = c.args.line.now in
    let f = lone-point line _ _ _ c.word_at-p.ensures c.lone_word.ensures c.if-are_same.ensures in
    let e = old-form 1 1 line _ _ c.word_at-p.ensures c.in_ok-check_old.ensures in
    rw (f, from-word line _ _ c.word_at-p.ensures c.old_from.ensures, c.word_at-p.ensures) (read-passed _ _ e refl)
