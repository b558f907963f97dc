use Rattle.port.proofs.Masks.{polarity_laws}
use Rattle.port.proofs.polarities.polarity_laws.Goals as goal

pub returns : goal.returns
returns c = polarity_laws
