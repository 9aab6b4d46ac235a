-- Each return is one law: 1 to 3, 4 to 9, 10, or what `grant` or `admit` promises.
-- What the tests say of the text and the line is what the laws ask.
use mathlib.Core.Path.{ap, ◌∙◌}
use borrow.Author.Tests.{lt-ltb, le-ltb}
use Rattle.laws.proofs.Tests.{and-no-left}
use Rattle.answers.specs.Shown.{refusal_meant}
use Rattle.elephant.proofs.Ends.{handed}
use Rattle.elephant.proofs.Refused.{refused-out, refused-unread, refused-long, let_through}
use Rattle.elephant.proofs.answered.Goals as goal

pub returns-in_err-check_entrance : goal.returns-in_err-check_entrance
returns-in_err-check_entrance c =
    let a = c.args in
    refused-out a.table.now a.line.now a.text.now a.reply.now a.user a.stop _ c.in_err-check_entrance.ensures _
    (handed _ _ c.from_residual.ensures.1)

pub returns-in_err-asked : goal.returns-in_err-asked
returns-in_err-asked c =
    let a = c.args in
    refused-unread a.table.now a.line.now a.text.now a.reply.now a.user a.stop _ c.in_ok-check_entrance.ensures _ c.in_err-asked.ensures _
    (handed _ _ c.from_residual-in_err-asked.ensures.1)

pub admit-requires : goal.admit-requires
admit-requires c =
    let a = c.args in
    let_through a.table.now a.line.now a.text.now a.reply.now a.user a.stop _ c.in_ok-check_entrance.ensures c.in_ok-asked.asked
    c.in_ok-asked.ensures (c.bears_text.ensures _ _ ∙ and-no-left c.bears_text.result _ c.if-not-bears_text.true)

pub returns-then-not-bears_text : goal.returns-then-not-bears_text
returns-then-not-bears_text c = c.admit.ensures

pub returns-then-text-gt-MOST_LENGTH : goal.returns-then-text-gt-MOST_LENGTH
returns-then-text-gt-MOST_LENGTH c =
    let a = c.args in
    let w = rw c.if-not-bears_text.false at (c.bears_text.ensures a.line.now a.text.now) in
    refused-long a.table.now a.line.now a.text.now a.reply.now a.user a.stop _ c.in_ok-check_entrance.ensures c.in_ok-asked.asked
    c.in_ok-asked.ensures (w ∙ lt-ltb 24000 _ c.if-text-gt-MOST_LENGTH.true) _ (ap refusal_meant c.whole.ensures)

pub grant-requires : goal.grant-requires
grant-requires c =
    let a = c.args in
    let w = rw c.if-not-bears_text.false at (c.bears_text.ensures a.line.now a.text.now) in
    let_through a.table.now a.line.now a.text.now a.reply.now a.user a.stop _ c.in_ok-check_entrance.ensures c.in_ok-asked.asked
    c.in_ok-asked.ensures (w ∙ le-ltb 24000 _ c.if-text-gt-MOST_LENGTH.false)

pub returns : goal.returns
returns c = c.grant.ensures
