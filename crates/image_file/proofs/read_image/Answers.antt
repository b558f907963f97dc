use Rattle.std.proofs.Common.{◌≡◌, ◌/◌, ◌%◌, ◌<◌, ◌++◌, length, map, take, drop, ap, sym, ◌∙◌, inl, inr, arith, rules}
use Rattle.std.specs.List.{AllByRecursion}
use Rattle.std.proofs.ByRecursion.{All-from_get_or, All-drop}
use Rattle.std.proofs.lemmas.List.{take-append-drop}
use Rattle.buffers.specs.Buffers.{blank, padded}
use Rattle.buffers.proofs.Laid.{padded_over}
use Rattle.image_file.specs.Bytes.{words_of, word_of}
use Rattle.image_file.specs.Files.{head}
use Rattle.image_file.proofs.Bytes.{length_words_of, words_of_pairs}
use Rattle.image_file.proofs.Files.{refused_reading, accepted_reading}
use Rattle.image_file.proofs.read_image.Goals as goal

pub returns-then-count-image : goal.returns-then-count-image
returns-then-count-image c =
    let bytes = c.args.bytes.now in
    let rest = drop 5 bytes in
    let n = length c.args.image.now in
    let zeros : c.fill.new.self ≡ blank n = c.fill.ensures.after (λ y e. search rules) in
    let mark : take 5 bytes ≡ head = search rules in
    let headed : bytes ≡ head ++ rest = sym (take-append-drop 5 bytes) ∙ ap (λ front. front ++ rest) mark in
    let behind : c.in_ok-words.words.now ≡ rest = search rules in
    let even : length rest % 2 ≡ 0 = rw (← behind) (sym c.as_chunks.ensures.back_len ∙ search rules) in
    let half : length c.as_chunks.result.0.now ≡ length rest / 2 = rw (← behind) c.as_chunks.ensures.front_len in
    let shown = refused_reading bytes rest n _ headed even half _ (elim c.then-count-image.either [ inl over ↦ inl (omega arith) | inr over ↦ inr over.1 ]) zeros in
    record { answer = shown.0; after = shown.1; within = tt; written_by = shown.2 }

pub returns : goal.returns
returns c =
    let bytes = c.args.bytes.now in
    let rest = drop 5 bytes in
    let n = length c.args.image.now in
    let zeros : c.fill.new.self ≡ blank n = c.fill.ensures.after (λ y e. search rules) in
    let mark : take 5 bytes ≡ head = search rules in
    let headed : bytes ≡ head ++ rest = sym (take-append-drop 5 bytes) ∙ ap (λ front. front ++ rest) mark in
    let behind : c.in_ok-words.words.now ≡ rest = search rules in
    let even : length rest % 2 ≡ 0 = rw (← behind) (sym c.as_chunks.ensures.back_len ∙ search rules) in
    let count = length c.as_chunks.result.0.now in
    let half : count ≡ length rest / 2 = rw (← behind) c.as_chunks.ensures.front_len in
    let small : AllByRecursion (λ b. b < 256) bytes = All-from_get_or (λ b. b < 256) bytes 0 (λ i h. (c.type_inv.bytes i).fits) in
    let words : c.read_words.new.words ≡ words_of rest =
    c.read_words.ensures ∙ ap (map word_of) c.as_chunks.ensures.front ∙ rw behind (sym (words_of_pairs rest)) in
    let filled : c.read_words.new.words ++ drop count c.fill.new.self ≡ padded (words_of rest) n =
    rw (words, zeros) (padded_over (words_of rest) n count (omega (arith, half, length_words_of rest))) in
    let shown = accepted_reading bytes rest n count headed even half _ (All-drop (λ b. b < 256) 5 bytes small) (omega arith) c.if-count-gt-MAX_WORDS.false filled in
    record { answer = shown.0; after = shown.1; within = omega arith; written_by = shown.2 }
