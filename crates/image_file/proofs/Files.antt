-- A file that is written and a file that is read: what the calls answer of it, and what it gives back.
use Rattle.std.proofs.Common.{◌≡◌, ℕ, ◌+◌, ◌*◌, ◌/◌, ◌%◌, ◌<◌, ◌≤◌, cond, ◌||◌, ltb, ◌⊎◌, List, ◌++◌, length, take, Ok, Err, Result, sym, ap, ◌∙◌, subst, inl, inr, arith}
use Rattle.std.specs.List.{AllByRecursion}
use Rattle.std.proofs.lemmas.Bool.{lt-ltb, le-ltb, ne_eqb, or_from, or_left, or_right, cond-true, cond-false}
use Rattle.buffers.specs.Buffers.{blank, padded}
use Rattle.buffers.proofs.Laid.{take_padded}
use Rattle.image_file.specs.declared.Refusal.{Refusal}
use Rattle.image_file.specs.declared.Refusal.TheVariants.{Words}
use Rattle.image_file.specs.Bytes.{bytes_of, words_of}
use Rattle.image_file.specs.Files.{head, file_of}
use Rattle.image_file.specs.Calls.{Served, refusing, accepting, too_many, writing, reading}
use Rattle.image_file.specs.Laws.{ReadsBack, WrittenBy}
use Rattle.image_file.proofs.Bytes.{byte_laws, length_bytes_of, length_words_of}

pub length_file : (image : List ℕ) → length (file_of image) ≡ 5 + 2 * length image
length_file image = omega (arith, length_bytes_of image)

-- what reading answers of a head with an even number of bytes behind it
abbrev reading_words : List ℕ → ℕ → Served
reading_words image n = cond (ltb n (length image) || too_many image) (refusing Words n) (accepting image n)

reading_behind_head : (rest : List ℕ) (n : ℕ) → length rest % 2 ≡ 0 → reading (head ++ rest) n ≡ reading_words (words_of rest) n
reading_behind_head rest n even = cond-false _ _ _ (ne_eqb (length (head ++ rest) % 2) 0 (λ e. omega arith))

reading_few : (image : List ℕ) (n : ℕ) → length image ≤ n → length image ≤ 65536 → reading_words image n ≡ accepting image n
reading_few image n room few = cond-false _ _ _ (or_from _ _ (le-ltb _ _ room) (le-ltb _ _ few))

reading_many : (image : List ℕ) (n : ℕ) → (n < length image) ⊎ (65536 < length image) → reading_words image n ≡ refusing Words n
reading_many image n (inl over) = cond-true _ _ _ (or_left _ _ (lt-ltb _ _ over))
reading_many image n (inr over) = cond-true _ _ _ (or_right _ _ (lt-ltb _ _ over))

writing_few : (image : List ℕ) (n : ℕ) → length image ≤ 65536 → length (file_of image) ≤ n → writing image n ≡ accepting (file_of image) n
writing_few image n few room = cond-false _ _ _ (le-ltb _ _ few) ∙ cond-false _ _ _ (le-ltb _ _ room)

-- an image file reads back to its image
reads_back : (image : List ℕ) → length image ≤ 65536 → ReadsBack (file_of image) image
reads_back image few n room =
    let even : length (bytes_of image) % 2 ≡ 0 = omega (arith, length_bytes_of image) in
    reading_behind_head (bytes_of image) n even
    ∙ ap (λ words. reading_words words n) (byte_laws.words_back image)
    ∙ reading_few image n room few

-- a file that is read is the one that its image is written to
written_by : (rest : List ℕ) → AllByRecursion (λ b. b < 256) rest → length rest % 2 ≡ 0 → length (words_of rest) ≤ 65536 → WrittenBy (words_of rest) (head ++ rest)
written_by rest small even few =
    let form : file_of (words_of rest) ≡ head ++ rest = ap (λ bytes. head ++ bytes) (byte_laws.bytes_back rest small even) in
    record {
      form = form;
      written = λ n room. writing_few (words_of rest) n few (subst (λ file. length file ≤ n) (sym form) room) ∙ ap (λ file. accepting file n) form;
    }

-- what a call is to show of its answer, the buffer after it and the law
abbrev pub Shown : Served → Result ℕ Refusal → List ℕ → Type 0 → Type 0
Shown served answer after Law = (answer ≡ served.answer) × (after ≡ served.after) × Law

-- a file that is written
pub accepted_writing : (image : List ℕ) (n end : ℕ) (out : List ℕ)
    → length image ≤ 65536
    → end ≡ 5 + 2 * length image
    → end ≤ n
    → out ≡ padded (file_of image) n
    → Shown (writing image n) (Ok end) out (ReadsBack (take end out) image)
accepted_writing image n end out few ends room is =
    let long : end ≡ length (file_of image) = omega (arith, length_file image) in
    let done = writing_few image n few (omega arith) in
    let front : take end out ≡ file_of image = ap (take end) is ∙ ap (λ k. take k (padded (file_of image) n)) long ∙ take_padded (file_of image) n in (
      ap (λ k. Ok k) long ∙ ap (λ (s : Served). s.answer) (sym done),
      is ∙ ap (λ (s : Served). s.after) (sym done),
      subst (λ file. ReadsBack file image) (sym front) (reads_back image few),
    )

-- a file that is read
module _ (bytes rest : List ℕ) (n count : ℕ) (headed : bytes ≡ head ++ rest) (even : length rest % 2 ≡ 0) (half : count ≡ length rest / 2) where
  counted : count ≡ length (words_of rest)
  counted = half ∙ sym (length_words_of rest)

  behind : reading bytes n ≡ reading_words (words_of rest) n
  behind = ap (λ file. reading file n) headed ∙ reading_behind_head rest n even

  pub refused_reading : (out : List ℕ) → (n < count) ⊎ (65536 < count) → out ≡ blank n → Shown (reading bytes n) (Err Words) out Unit
  refused_reading out over is =
      let done = behind ∙ reading_many (words_of rest) n (subst (λ k. (n < k) ⊎ (65536 < k)) counted over) in (
        ap (λ (s : Served). s.answer) (sym done),
        is ∙ ap (λ (s : Served). s.after) (sym done),
        tt,
      )

  pub accepted_reading : (out : List ℕ)
      → AllByRecursion (λ b. b < 256) rest
      → count ≤ n
      → count ≤ 65536
      → out ≡ padded (words_of rest) n
      → Shown (reading bytes n) (Ok count) out (WrittenBy (take count out) bytes)
  accepted_reading out small room few is =
      let done = behind ∙ reading_few (words_of rest) n (omega (arith, counted)) (omega (arith, counted)) in
      let front : take count out ≡ words_of rest = ap (take count) is ∙ ap (λ k. take k (padded (words_of rest) n)) counted ∙ take_padded (words_of rest) n in (
        ap (λ k. Ok k) counted ∙ ap (λ (s : Served). s.answer) (sym done),
        is ∙ ap (λ (s : Served). s.after) (sym done),
        subst (λ words. WrittenBy words bytes) (sym front) (subst (λ file. WrittenBy (words_of rest) file) (sym headed) (written_by rest small even (omega (arith, counted)))),
      )
