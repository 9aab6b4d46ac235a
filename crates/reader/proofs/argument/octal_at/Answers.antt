-- The names of word k are those at its place; its number is that of its
-- stretch, since a word of several names has none.
use lib.ListN.{length}
use borrow.Author.Tests.{lt-ltb, le-ltb}
use Rattle.paper.specs.Line.{words}
use Rattle.paper.specs.Request.{octal_at}
use Rattle.words.specs.Place.{names_from}
use Rattle.words.proofs.Words.{word-names}
use Rattle.reader.proofs.Numbers.{octal-lone}
use Rattle.reader.proofs.argument.octal_at.Goals as goal

pub returns-then-count_words-k : goal.returns-then-count_words-k
unfolding octal_at
returns-then-count_words-k c =
    let args = c.args in
    rw (le-ltb args.k (length (words args.line.now)) (rw (← c.count_words.ensures) c.if-count_words-k.true))

pub returns-else-count_words-k : goal.returns-else-count_words-k
unfolding octal_at
returns-else-count_words-k c =
    let args = c.args in
    let line = args.line.now in
    rw (lt-ltb args.k (length (words line)) (rw (← c.count_words.ensures) c.if-count_words-k.false))
    (rw (word-names, ← c.word_at.ensures, ← octal-lone (names_from line c.word_at.result), ← c.lone_word.ensures) c.octal_of.ensures)
