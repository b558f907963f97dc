use Rattle.laws.proofs.Parts.{within}
use Rattle.laws.proofs.within_budget.Goals as goal

pub returns : goal.returns
returns c = within
