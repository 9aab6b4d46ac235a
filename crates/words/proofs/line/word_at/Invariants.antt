-- The place arrived at is where word i starts: the first word starts past the leading blanks, and each next word
-- where `next_word` says.
use mathlib.Core.Path.{◌≡◌}
use Rattle.paper.specs.Line.{word}
use Rattle.words.proofs.line.word_at.Given as goal

abbrev pub invariant-loop : goal.invariant-loop
invariant-loop l = l.p ≡ (word l.line l.counter).start
