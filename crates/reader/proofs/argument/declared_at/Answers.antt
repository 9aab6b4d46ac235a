-- The names of word k are those at its place: of one name, the word is what
-- that name declares, and of several it declares nothing right.
use mathlib.Core.Path.{refl, sym, ◌∙◌}
use lib.ListN.{length}
use borrow.Author.Tests.{lt-ltb, le-ltb}
use Rattle.std.specs.Prelude.{None}
use Rattle.paper.specs.Declaration.{declared}
use Rattle.paper.specs.Line.{words}
use Rattle.paper.specs.Request.{declared_at}
use Rattle.declarations.specs.Given.{shown_declared}
use Rattle.words.proofs.Words.{word-names}
use Rattle.words.proofs.Names.{names-one, names-two}
use Rattle.reader.proofs.Functions.{joined-some}
use Rattle.reader.proofs.argument.declared_at.Goals as goal

pub returns-then-count_words-k : goal.returns-then-count_words-k
unfolding declared_at
returns-then-count_words-k c =
    let args = c.args in
    rw (le-ltb args.k (length (words args.line.now)) (rw (← c.count_words.ensures) c.if-count_words-k.true)) c.omitted.ensures

pub returns-then-is_some : goal.returns-then-is_some
unfolding declared_at declared
returns-then-is_some c =
    let args = c.args in
    let line = args.line.now in
    let j = sym (joined-some line c.word_at-p.result) ∙ rw c.next_name.ensures at (sym c.is_some.ensures ∙ c.if-is_some.true) in
    rw (lt-ltb args.k (length (words line)) (rw (← c.count_words.ensures) c.if-count_words-k.false))
    (rw (word-names, ← c.word_at-p.ensures) (sym (names-two line _ (λ ns. shown_declared (declared ns)) None (λ n m ns. refl) j)))

pub returns : goal.returns
unfolding declared_at
returns c =
    let args = c.args in
    let line = args.line.now in
    let j = sym (joined-some line c.word_at-p.result) ∙ rw c.next_name.ensures at (sym c.is_some.ensures ∙ c.if-is_some.false) in
    rw (lt-ltb args.k (length (words line)) (rw (← c.count_words.ensures) c.if-count_words-k.false))
    (rw (word-names, ← c.word_at-p.ensures, names-one line _ j, ← c.name.ensures) c.declared.ensures)
