use Rattle.pieces.proofs.Cuts.{piece_laws}
use Rattle.text_port.specs.Tokens.{gap, blanks}
use Rattle.text_port.proofs.token_laws.Goals as goal

pub returns : goal.returns
returns c = let laws = piece_laws (λ s b. s) (λ s b. gap b) in record { none = laws.none blanks; first = laws.first blanks }
