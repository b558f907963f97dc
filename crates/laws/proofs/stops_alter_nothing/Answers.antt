use Rattle.std.proofs.Common.{sym}
use Rattle.cpu.proofs.Turns.{stays}
use Rattle.laws.proofs.stops_alter_nothing.Goals as goal

pub returns : goal.returns
returns c = λ s stop e. (stays s stop (sym e)).0
