use Rattle.text_port.proofs.Reached.{sends_lines}
use Rattle.text_port.proofs.sent_lines.Goals as goal

pub returns : goal.returns
returns c = sends_lines
