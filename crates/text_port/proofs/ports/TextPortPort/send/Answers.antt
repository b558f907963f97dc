use Rattle.std.proofs.Common.{arith}
use Rattle.std.proofs.lemmas.Grind.{common_steps}
use Rattle.text_port.specs.Holding.{held}
use Rattle.text_port.proofs.Sends.{send_after}
use Rattle.text_port.proofs.ports.TextPortPort.send.Goals as goal

pub returns-clause-after : goal.returns-clause-after
returns-clause-after c = send_after (held c.args.self.now) c.args.word (omega arith) c.ranges.word.fits _ (grind (arith, common_steps))
