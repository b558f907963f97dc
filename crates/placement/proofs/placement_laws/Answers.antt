use Rattle.placement.proofs.Widths.{placement_laws}
use Rattle.placement.proofs.placement_laws.Goals as goal

pub returns : goal.returns
returns c = placement_laws
