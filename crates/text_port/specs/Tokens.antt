-- The tokens of a text, and the words that they are read to. Assumes nothing.
use Rattle.std.specs.Prelude.{ℕ, Bool, ◌||◌, List, [], ◌∷◌, Some, None, Option, ◌==◌}
use Rattle.numbers.specs.Reading.{reading}
use Rattle.pieces.specs.Pieces.{white, pieces}
use Rattle.text_port.specs.declared.tokens.Blanks.{Blanks}

-- a byte between tokens: white space or a line end
abbrev pub gap : ℕ → Bool
gap c = white c || c == 10

-- the one state, since a byte between tokens is one wherever it stands
abbrev pub blanks : Blanks
blanks = record {}

-- the tokens, first to last: the bytes that stand together with no gap among them
abbrev pub tokens : List ℕ → List (List ℕ)
tokens text = pieces (λ s c. s) (λ s c. gap c) blanks text

-- a word before others; no word where there is none
abbrev pub before : Option ℕ → List ℕ → List ℕ
before None words = []
before (Some word) words = word ∷ words

-- the words of the tokens up to the first that is no 16-bit number
abbrev pub words_of : List (List ℕ) → List ℕ
words_of [] = []
words_of (t ∷ ts) = before (reading 16 t) (words_of ts)
