-- Words as bytes and bytes as words: each undoes the other, and the step of a loop over either.
use Rattle.std.proofs.Common.{◌≡◌, ℕ, suc, map, ◌+◌, ◌*◌, ◌/◌, ◌%◌, ◌<◌, ◌≤◌, List, [], ◌∷◌, ◌++◌, length, get_or, take, drop, set, sym, refl, ap, ◌∙◌, arith}
use Rattle.std.specs.Simd.{first_chunks}
use Rattle.std.specs.List.{AllByRecursion}
use Rattle.std.proofs.lemmas.List.{append_assoc, append-nil, at_drop_more, take_more_set, take_all, drop_all, length-set}
use Rattle.image_file.specs.Bytes.{bytes_of, words_of, word_of}
use Rattle.image_file.specs.Laws.{ByteLaws}

words_back : (words : List ℕ) → words_of (bytes_of words) ≡ words
words_back [] = refl
words_back (word ∷ words) =
    let joined : word / 256 * 256 + word % 256 ≡ word = omega arith in
    cc (joined, words_back words)

bytes_back : (bytes : List ℕ) → AllByRecursion (λ b. b < 256) bytes → length bytes % 2 ≡ 0 → bytes_of (words_of bytes) ≡ bytes
bytes_back [] small even = refl
bytes_back (high ∷ []) small even = absurd (omega arith)
bytes_back (high ∷ low ∷ bytes) small even =
    let below = small.1.0 in
    let first : (high * 256 + low) / 256 ≡ high = omega arith in
    let second : (high * 256 + low) % 256 ≡ low = omega arith in
    cc (first, second, bytes_back bytes small.1.1 (omega arith))

pub byte_laws : ByteLaws
byte_laws = record { words_back = words_back; bytes_back = bytes_back }

pub length_bytes_of : (words : List ℕ) → length (bytes_of words) ≡ 2 * length words
length_bytes_of [] = refl
length_bytes_of (word ∷ words) = omega (arith, length_bytes_of words)

pub length_words_of : (bytes : List ℕ) → length (words_of bytes) ≡ length bytes / 2
length_words_of [] = refl
length_words_of (high ∷ []) = refl
length_words_of (high ∷ low ∷ bytes) = omega (arith, length_words_of bytes)

-- one more word written
pub written_more : (words bytes : List ℕ) (i high low : ℕ)
    → i < length words
    → 2 * i + 1 < length bytes
    → high ≡ get_or words i 0 / 256
    → low ≡ get_or words i 0 % 256
    → take (2 * i) bytes ++ bytes_of (drop i words) ≡ bytes_of words
    → take (2 * (i + 1)) (set (set bytes (2 * i) high) (2 * i + 1) low) ++ bytes_of (drop (i + 1) words) ≡ bytes_of words
written_more words bytes i high low within room is-high is-low so_far =
    let first : List ℕ = set bytes (2 * i) high in
    let rest : List ℕ = bytes_of (drop (i + 1) words) in
    let two : 2 * (i + 1) ≡ 2 * i + 1 + 1 = omega arith in
    let fits : 2 * i + 1 < length first = rw length-set room in
    let more : bytes_of (drop i words) ≡ high ∷ low ∷ rest = cc (at_drop_more bytes_of words i 0 within) in
    ap (λ k. take k (set first (2 * i + 1) low) ++ rest) two
    ∙ ap (λ front. front ++ rest) (take_more_set first (2 * i + 1) low fits)
    ∙ ap (λ front. (front ++ low ∷ []) ++ rest) (take_more_set bytes (2 * i) high (omega arith))
    ∙ (simp append_assoc)
    ∙ ap (λ left. take (2 * i) bytes ++ left) (sym more)
    ∙ so_far

-- every word written
pub written_all : (words bytes : List ℕ) (i : ℕ)
    → length words ≤ i
    → length bytes ≡ 2 * length words
    → take (2 * i) bytes ++ bytes_of (drop i words) ≡ bytes_of words
    → bytes ≡ bytes_of words
written_all words bytes i past long so_far =
    sym (append-nil bytes)
    ∙ ap (λ front. front ++ []) (sym (take_all (2 * i) bytes (omega arith)))
    ∙ ap (λ more. take (2 * i) bytes ++ bytes_of more) (sym (drop_all i words past))
    ∙ so_far

-- the words are those of the bytes in twos
pub words_of_pairs : (bytes : List ℕ) → words_of bytes ≡ map word_of (first_chunks 2 (length bytes / 2) bytes)
words_of_pairs [] = refl
words_of_pairs (high ∷ []) = refl
words_of_pairs (high ∷ low ∷ bytes) =
    let half : suc (suc (length bytes)) / 2 ≡ suc (length bytes / 2) = omega arith in
    ap (λ words. (high * 256 + low) ∷ words) (words_of_pairs bytes) ∙ ap (λ k. map word_of (first_chunks 2 k (high ∷ low ∷ bytes))) (sym half)
