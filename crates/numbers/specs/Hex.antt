-- A word as four lower-case hexadecimal digits. Assumes nothing.
use Rattle.std.specs.Prelude.{ℕ, ◌/◌, ◌%◌, List, [], ◌∷◌}
use Rattle.std.specs.Char.{digit_char}

abbrev pub hex4 : ℕ → List ℕ
hex4 w = digit_char (w / 4096) ∷ digit_char (w / 256 % 16) ∷ digit_char (w / 16 % 16) ∷ digit_char (w % 16) ∷ []
