-- The laws of the file form: writing and reading undo each other. Assumes nothing.
use Rattle.std.specs.Prelude.{◌≡◌, ℕ, ◌%◌, ◌<◌, ◌≤◌, List, length}
use Rattle.std.specs.List.{AllByRecursion}
use Rattle.image_file.specs.Bytes.{bytes_of, words_of}
use Rattle.image_file.specs.Files.{file_of}
use Rattle.image_file.specs.Calls.{writing, reading, accepting}

-- bytes to words and back, under any head
pub record ByteLaws : Type 0 where
  -- every word is had back from its bytes
  pub words_back : (words : List ℕ) → words_of (bytes_of words) ≡ words
  -- an even number of bytes is had back from its words
  pub bytes_back : (bytes : List ℕ) → AllByRecursion (λ b. b < 256) bytes → length bytes % 2 ≡ 0 → bytes_of (words_of bytes) ≡ bytes

-- the file reads back to the image, in every buffer that holds the image
abbrev pub ReadsBack : List ℕ → List ℕ → Type 0
ReadsBack file image = (n : ℕ) → length image ≤ n → reading file n ≡ accepting image n

-- the file is what writing the image gives, in every buffer that holds the file
pub record WrittenBy (image : List ℕ) (file : List ℕ) : Type 0 where
  pub form : file_of image ≡ file
  pub written : (n : ℕ) → length file ≤ n → writing image n ≡ accepting file n
