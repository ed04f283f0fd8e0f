use Rattle.std.proofs.Common.{sym, ◌∙◌, rules}
use Rattle.session_format.proofs.Shapes.{begins_at, begins_malformed, begins_short}
use Rattle.session_format.proofs.view.split_first.Goals as goal

pub returns-in_default : goal.returns-in_default
returns-in_default c = begins_short c.args.bytes.now (search rules)

pub returns : goal.returns
returns c =
    begins_at c.args.bytes.now c.try_from.result c.in_ok-call.call (search rules) c.try_from.ensures (sym c.ok.ensures.value ∙ c.in_ok-call.was)

pub returns-in_err-call : goal.returns-in_err-call
returns-in_err-call c =
    rw c.from_residual.ensures (begins_malformed c.args.bytes.now c.try_from.result (search rules) c.try_from.ensures (sym c.ok.ensures.value ∙ c.in_err-call.was))
