-- The five verdicts are those of the five checks, in order,
-- of words that are found by their places.
use mathlib.Core.Path.{refl}
use Rattle.paper.specs.Request.{read_chn}
use Rattle.reader.proofs.Verdicts.{now, next, read-refused, read-passed, chn-form, exits}
use Rattle.reader.proofs.request.read_chn.Goals as goal

pub returns-in_err-check_count : goal.returns-in_err-check_count
unfolding read_chn
returns-in_err-check_count c =
    exits _ _ c.from_residual.ensures.1 (read-refused _ _
    (chn-form c.args.line.now _ _ _ c.word_at-old.ensures c.word_at-link.ensures
    (now _ _ c.in_err-check_count.ensures)))

pub returns-in_err-check_name : goal.returns-in_err-check_name
unfolding read_chn
returns-in_err-check_name c =
    exits _ _ c.from_residual-in_err-check_name.ensures.1 (read-refused _ _
    (chn-form c.args.line.now _ _ _ c.word_at-old.ensures c.word_at-link.ensures
    (next _ _ c.in_ok-check_count.ensures (now _ _ c.in_err-check_name.ensures))))

pub returns-in_err-check_link : goal.returns-in_err-check_link
unfolding read_chn
returns-in_err-check_link c =
    exits _ _ c.from_residual-in_err-check_link.ensures.1 (read-refused _ _
    (chn-form c.args.line.now _ _ _ c.word_at-old.ensures c.word_at-link.ensures
    (next _ _ c.in_ok-check_count.ensures (next _ _ c.in_ok-check_name.ensures (now _ _ c.in_err-check_link.ensures)))))

pub returns-in_err-check_name-2 : goal.returns-in_err-check_name-2
unfolding read_chn
returns-in_err-check_name-2 c =
    exits _ _ c.from_residual-in_err-check_name-2.ensures.1 (read-refused _ _
    (chn-form c.args.line.now _ _ _ c.word_at-old.ensures c.word_at-link.ensures
    (next _ _ c.in_ok-check_count.ensures (next _ _ c.in_ok-check_name.ensures
    (next _ _ c.in_ok-check_link.ensures (now _ _ c.in_err-check_name-2.ensures))))))

pub returns-in_err-check_base : goal.returns-in_err-check_base
unfolding read_chn
returns-in_err-check_base c =
    exits _ _ c.from_residual-in_err-check_base.ensures.1 (read-refused _ _
    (chn-form c.args.line.now _ _ _ c.word_at-old.ensures c.word_at-link.ensures
    (next _ _ c.in_ok-check_count.ensures (next _ _ c.in_ok-check_name.ensures
    (next _ _ c.in_ok-check_link.ensures (next _ _ c.in_ok-check_name-2.ensures c.in_err-check_base.ensures))))))

pub returns : goal.returns
unfolding read_chn
returns c =
    rw (c.word_at-old.ensures, c.word_at-link.ensures)
    (read-passed _ _
    (chn-form c.args.line.now _ _ _ c.word_at-old.ensures c.word_at-link.ensures
    (next _ _ c.in_ok-check_count.ensures (next _ _ c.in_ok-check_name.ensures
    (next _ _ c.in_ok-check_link.ensures (next _ _ c.in_ok-check_name-2.ensures c.in_ok-check_base.ensures))))) refl)
