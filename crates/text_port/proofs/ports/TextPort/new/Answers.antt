use Rattle.text_port.proofs.Causes.{words_accepted}
use Rattle.text_port.proofs.ports.TextPort.new.Goals as goal

pub returns-clause-accepted : goal.returns-clause-accepted
returns-clause-accepted c = λ e. rw (c.accepted_tokens.ensures, e) (words_accepted c.args.text.now e)
