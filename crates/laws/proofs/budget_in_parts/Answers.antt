use Rattle.laws.proofs.Parts.{in_parts}
use Rattle.laws.proofs.budget_in_parts.Goals as goal

pub returns : goal.returns
returns c = in_parts
