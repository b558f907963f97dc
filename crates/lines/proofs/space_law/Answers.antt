use Rattle.lines.proofs.Spaces.{space_law}
use Rattle.lines.proofs.space_law.Goals as goal

pub returns : goal.returns
returns c = space_law
