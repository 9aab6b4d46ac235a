-- Each refusal is tried over all sheets; the first that some sheet has is given, with that sheet,
-- and where none has any the job passes.
use Rattle.std.proofs.Common.{rules}
use Rattle.std.proofs.lemmas.Result.{err_from_is_err_and}
use Rattle.job.specs.Refusal.{malformed, twice, too_long}
use Rattle.lamp.proofs.Refusals.{in-order}
use Rattle.lamp.proofs.refusal.admit.Goals as goal

pub returns-in_err-refuse : goal.returns-in_err-refuse
returns-in_err-refuse c =
    let s = c.args in
    let p = err_from_is_err_and c.from_residual.result c.from_residual.ensures.1 in
    let one = c.first_wrong.ensures (malformed s.sheets.now) (λ i b l q. search rules) in
    rw (p.1, p.2, in-order s.sheets.now s.texts.now s.back.now, ← one, ← c.in_err-refuse.ensures)

pub returns-in_err-refuse-2 : goal.returns-in_err-refuse-2
returns-in_err-refuse-2 c =
    let s = c.args in
    let p = err_from_is_err_and c.from_residual-in_err-refuse-2.result c.from_residual-in_err-refuse-2.ensures.1 in
    let one = c.first_wrong.ensures (malformed s.sheets.now) (λ i b l q. search rules) in
    let two = c.first_wrong-2.ensures (twice s.sheets.now) (λ i b l q. search rules) in
    rw (p.1, p.2, in-order s.sheets.now s.texts.now s.back.now, ← one, ← c.in_ok-refuse.ensures, ← two, ← c.in_err-refuse-2.ensures)

pub returns-in_err-refuse-3 : goal.returns-in_err-refuse-3
returns-in_err-refuse-3 c =
    let s = c.args in
    let p = err_from_is_err_and c.from_residual-in_err-refuse-3.result c.from_residual-in_err-refuse-3.ensures.1 in
    let one = c.first_wrong.ensures (malformed s.sheets.now) (λ i b l q. search rules) in
    let two = c.first_wrong-2.ensures (twice s.sheets.now) (λ i b l q. search rules) in
    rw (
      p.1,
      p.2,
      in-order s.sheets.now s.texts.now s.back.now,
      ← one,
      ← c.in_ok-refuse.ensures,
      ← two,
      ← c.in_ok-refuse-2.ensures,
      ← c.first_missing.ensures,
      ← c.in_err-refuse-3.ensures,
    )

pub returns : goal.returns
returns c =
    let s = c.args in
    let one = c.first_wrong.ensures (malformed s.sheets.now) (λ i b l q. search rules) in
    let two = c.first_wrong-2.ensures (twice s.sheets.now) (λ i b l q. search rules) in
    let four = c.first_wrong-3.ensures (too_long s.sheets.now s.back.now) (λ i b l q. search rules) in
    rw (
      in-order s.sheets.now s.texts.now s.back.now,
      ← one,
      ← c.in_ok-refuse.ensures,
      ← two,
      ← c.in_ok-refuse-2.ensures,
      ← c.first_missing.ensures,
      ← c.in_ok-refuse-3.ensures,
      ← four,
      ← c.refuse-4.ensures,
    )
