use Rattle.laws.proofs.Zeros.{zeros_stay}
use Rattle.laws.proofs.register_zero.Goals as goal

pub returns : goal.returns
returns c = zeros_stay
