use Rattle.laws.proofs.Samples.{counts}
use Rattle.laws.proofs.count_down.Goals as goal

pub returns : goal.returns
returns c = counts
