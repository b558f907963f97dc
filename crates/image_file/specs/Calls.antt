-- What writing a file and reading one answer, and the buffer after it. Assumes nothing.
use Rattle.std.specs.Prelude.{ℕ, Bool, cond, ◌||◌, List, length, Ok, Err, Result, nat_lt}
use Rattle.buffers.specs.Buffers.{blank, padded}
use Rattle.image_file.specs.declared.Refusal.{Refusal}
use Rattle.image_file.specs.declared.Refusal.TheVariants.{Words, Image, Output, Mark}
use Rattle.image_file.specs.Files.{file_of, image_of, foreign}

-- what a call answers, and the buffer after it
pub record Served : Type 0 where
  pub answer : Result ℕ Refusal
  pub after : List ℕ

-- a refusal leaves a buffer of n places zero
abbrev pub refusing : Refusal → ℕ → Served
refusing refusal n = record { answer = Err refusal; after = blank n }

-- a list that fits a buffer of n places: its length, with the list at the front and zeros behind it
abbrev pub accepting : List ℕ → ℕ → Served
accepting list n = record { answer = Ok (length list); after = padded list n }

-- more words than an image may have
abbrev pub too_many : List ℕ → Bool
too_many image = nat_lt 65536 (length image)

-- writing the file of an image to a buffer of n bytes
abbrev pub writing : List ℕ → ℕ → Served
writing image n =
    cond (too_many image) (refusing Image n)
    (cond (nat_lt n (length (file_of image))) (refusing Output n) (accepting (file_of image) n))

-- reading the words of a file to a buffer of n words
abbrev pub reading : List ℕ → ℕ → Served
reading bytes n =
    cond (foreign bytes) (refusing Mark n)
    (cond (nat_lt n (length (image_of bytes)) || too_many (image_of bytes)) (refusing Words n) (accepting (image_of bytes) n))
