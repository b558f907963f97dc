use Rattle.std.proofs.Common.{sym, ◌∙◌, subst, arith}
use Rattle.text_port.specs.Checking.{Caused}
use Rattle.text_port.proofs.Causes.{when_short, caused}
use Rattle.text_port.proofs.checks.check_text.Goals as goal

pub returns-clause-cause : goal.returns-clause-cause
returns-clause-cause c =
    let text = c.args.text.now in
    subst (Caused text) (when_short text (omega arith) ∙ sym c.check_tokens.ensures) (caused text)
