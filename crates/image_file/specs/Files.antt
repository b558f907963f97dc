-- The file form of an image: a head, then the image's words. Assumes nothing.
use Rattle.std.specs.Prelude.{ℕ, ◌%◌, Bool, not, ◌||◌, List, [], ◌∷◌, ◌++◌, length, take, drop, ◌==◌}
use Rattle.std.specs.Str.{bytes_eq}
use Rattle.image_file.specs.Bytes.{bytes_of, words_of}

-- the letters A, P and C
abbrev pub mark : List ℕ
mark = 0x41 ∷ 0x50 ∷ 0x43 ∷ []

-- the version of the file form, a word
abbrev pub version : ℕ
version = 1

-- what each file begins with
abbrev pub head : List ℕ
head = mark ++ bytes_of (version ∷ [])

-- the file of an image
abbrev pub file_of : List ℕ → List ℕ
file_of image = head ++ bytes_of image

-- no file of this form: another head or a part of it, or an even length
abbrev pub foreign : List ℕ → Bool
foreign bytes = not (bytes_eq (take (length head) bytes) head) || length bytes % 2 == 0

-- the words behind the head
abbrev pub image_of : List ℕ → List ℕ
image_of bytes = words_of (drop (length head) bytes)
