-- A lone point is known by its place, and decides which checks come first; then comes the digit: its number goes
-- into the request, and where there is none the answer is 9.
use Rattle.paper.specs.Request.{read_tree}
use Rattle.words.proofs.Words.{word-names}
use Rattle.reader.proofs.Verdicts.{read-refused, read-passed, old-form, needed-ok, needed-err, exits}
use Rattle.reader.proofs.Functions.{lone-point, from-word}
use Rattle.reader.proofs.request.read_tree.Goals as goal

pub returns-in_err-check_count : goal.returns-in_err-check_count
unfolding read_tree
returns-in_err-check_count c =
    let line = c.args.line.now in
    let f = lone-point line _ _ _ c.word_at-p.ensures c.lone_word.ensures c.if-are_same.ensures in
    rw f (exits _ _ c.from_residual.ensures.1 (read-refused _ _ c.in_err-check_count.ensures))

pub returns-in_err-depth : goal.returns-in_err-depth
unfolding read_tree
returns-in_err-depth c =
    let line = c.args.line.now in
    let f = lone-point line _ _ _ c.word_at-p.ensures c.lone_word.ensures c.if-are_same.ensures in
    let d = rw (c.depth_at.ensures, c.word_at.ensures, ← word-names line 2, c.whole.ensures) at c.in_err-depth.ensures.value in
    rw f (exits _ _ c.from_residual-in_err-depth.ensures.1 (read-passed _ _ c.in_ok-check_count.ensures (needed-err _ _ _ _ d)))

pub returns-then-are_same : goal.returns-then-are_same
unfolding read_tree
returns-then-are_same c =
    let line = c.args.line.now in
    let f = lone-point line _ _ _ c.word_at-p.ensures c.lone_word.ensures c.if-are_same.ensures in
    let d = rw (c.depth_at.ensures, c.word_at.ensures, ← word-names line 2) at c.in_ok-depth.ensures.value in
    rw f (read-passed _ _ c.in_ok-check_count.ensures (needed-ok _ _ _ _ _ d))

pub returns-in_err-check_old : goal.returns-in_err-check_old
unfolding read_tree
returns-in_err-check_old c =
    let line = c.args.line.now in
    let f = lone-point line _ _ _ c.word_at-p.ensures c.lone_word.ensures c.if-are_same.ensures in
    let e = old-form 2 2 line _ _ c.word_at-p.ensures c.in_err-check_old.ensures in
    rw f (exits _ _ c.from_residual-in_err-check_old.ensures.1 (read-refused _ _ e))

pub returns-in_err-depth-2 : goal.returns-in_err-depth-2
unfolding read_tree
returns-in_err-depth-2 c =
    let line = c.args.line.now in
    let f = lone-point line _ _ _ c.word_at-p.ensures c.lone_word.ensures c.if-are_same.ensures in
    let e = old-form 2 2 line _ _ c.word_at-p.ensures c.in_ok-check_old.ensures in
    let d = rw (c.depth_at-2.ensures, c.word_at-2.ensures, ← word-names line 2, c.whole-2.ensures) at c.in_err-depth-2.ensures.value in
    rw f (exits _ _ c.from_residual-in_err-depth-2.ensures.1 (read-passed _ _ e (needed-err _ _ _ _ d)))

pub returns : goal.returns
unfolding read_tree
returns c =
    let line = c.args.line.now in
    let f = lone-point line _ _ _ c.word_at-p.ensures c.lone_word.ensures c.if-are_same.ensures in
    let e = old-form 2 2 line _ _ c.word_at-p.ensures c.in_ok-check_old.ensures in
    let d = rw (c.depth_at-2.ensures, c.word_at-2.ensures, ← word-names line 2) at c.in_ok-depth-2.ensures.value in
    rw (f, from-word line _ _ c.word_at-p.ensures c.old_from.ensures, c.word_at-p.ensures) (read-passed _ _ e (needed-ok _ _ _ _ _ d))
