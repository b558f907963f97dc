use Rattle.lines.proofs.Told.{part_laws}
use Rattle.lines.proofs.part_laws.Goals as goal

pub returns : goal.returns
returns c = part_laws
