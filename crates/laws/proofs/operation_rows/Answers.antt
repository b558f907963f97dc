use Rattle.laws.proofs.Samples.{rows}
use Rattle.laws.proofs.operation_rows.Goals as goal

pub returns : goal.returns
returns c = rows
