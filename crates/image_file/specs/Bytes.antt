-- Words as bytes and bytes as words, the high byte first. Assumes nothing.
use Rattle.std.specs.Prelude.{ℕ, ◌+◌, ◌*◌, ◌/◌, ◌%◌, List, [], ◌∷◌, slice_index}

-- the high byte of each word, then its low byte
abbrev pub bytes_of : List ℕ → List ℕ
bytes_of [] = []
bytes_of (word ∷ words) = word / 256 ∷ word % 256 ∷ bytes_of words

-- the word of each two bytes; a last byte alone is none
abbrev pub words_of : List ℕ → List ℕ
words_of [] = []
words_of (high ∷ []) = []
words_of (high ∷ low ∷ bytes) = (high * 256 + low) ∷ words_of bytes

-- the word of two bytes
abbrev pub word_of : List ℕ → ℕ
word_of pair = slice_index pair 0 * 256 + slice_index pair 1
