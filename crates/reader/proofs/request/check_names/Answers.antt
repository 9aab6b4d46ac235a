-- The two verdicts are those of the two
-- parts of the list, in order.
use mathlib.Core.Path.{sym, ap, ◌∙◌}
use Rattle.paper.specs.Request.{malformed, illegal, each, between}
use Rattle.reader.specs.Asked.{shown_verdict}
use Rattle.reader.proofs.Verdicts.{first-refused, first-passed, exits}
use Rattle.reader.proofs.request.check_names.Goals as goal

pub returns-in_err-check_each : goal.returns-in_err-check_each
returns-in_err-check_each c =
    let ws = between c.args.a c.args.b c.args.line.now in
    exits _ _ c.from_residual.ensures.1 (first-refused _ (each illegal c.args.a ws) (each malformed c.args.a ws) c.in_err-check_each.ensures)

pub returns : goal.returns
returns c =
    let ws = between c.args.a c.args.b c.args.line.now in
    c.check_each-2.ensures
    ∙ ap shown_verdict (sym (first-passed _ (each illegal c.args.a ws) (each malformed c.args.a ws) c.in_ok-check_each.ensures))
