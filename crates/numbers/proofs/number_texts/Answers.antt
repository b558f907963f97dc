use Rattle.numbers.proofs.Spelled.{has_texts}
use Rattle.numbers.proofs.number_texts.Goals as goal

pub returns : goal.returns
returns c = has_texts
