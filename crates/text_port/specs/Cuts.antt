-- A text can be cut behind each of its tokens. Assumes nothing.
use Rattle.std.specs.Prelude.{refl}
use Rattle.pieces.specs.Laws.{GapLaws}
use Rattle.text_port.specs.Tokens.{gap, blanks}

-- there is one state
pub blank_laws : GapLaws (λ s c. s) (λ s c. gap c) blanks
blank_laws = record { gaps = λ gs rest e b. refl; piece = λ cs rest e b. refl }
