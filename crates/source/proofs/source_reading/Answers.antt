use Rattle.source.proofs.Told.{source_reading}
use Rattle.source.proofs.source_reading.Goals as goal

pub returns : goal.returns
returns c = source_reading
