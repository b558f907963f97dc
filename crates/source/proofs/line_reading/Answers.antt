use Rattle.source.proofs.Told.{line_reading}
use Rattle.source.proofs.line_reading.Goals as goal

pub returns : goal.returns
returns c = line_reading
