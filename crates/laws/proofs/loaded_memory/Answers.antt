use Rattle.laws.proofs.Loads.{loads}
use Rattle.laws.proofs.loaded_memory.Goals as goal

pub returns : goal.returns
returns c = loads
