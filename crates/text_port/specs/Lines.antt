-- Words as lines of text, and back. Assumes nothing.
use Rattle.std.specs.Prelude.{ℕ, List, [], ◌∷◌, ◌++◌}
use Rattle.std.specs.List.{flat_map}
use Rattle.std.specs.Str.Parse.{digits_value}
use Rattle.numbers.specs.Hex.{hex4}

-- the line of a word: four hexadecimal digits and a line end
abbrev pub line : ℕ → List ℕ
line word = hex4 word ++ 10 ∷ []

-- the lines of words, first to last
abbrev pub hex_lines : List ℕ → List ℕ
hex_lines words = flat_map line words

-- the words of lines, five bytes at a time; fewer give no word
abbrev pub words_in : List ℕ → List ℕ
words_in (a ∷ b ∷ c ∷ d ∷ e ∷ rest) = digits_value 16 (a ∷ b ∷ c ∷ d ∷ []) ∷ words_in rest
words_in _ = []
