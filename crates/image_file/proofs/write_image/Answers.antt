use Rattle.std.proofs.Common.{◌≡◌, ◌+◌, ◌-◌, ◌*◌, length, ap, ◌∙◌, arith, rules}
use borrow.Rule.Slice.PartMut.{put_mid}
use Rattle.buffers.specs.Buffers.{blank, padded}
use Rattle.buffers.proofs.Laid.{overlaid_from_copy, overlaid_blank, overlaid_padded}
use Rattle.image_file.specs.Bytes.{bytes_of}
use Rattle.image_file.specs.Files.{head, file_of}
use Rattle.image_file.proofs.Bytes.{length_bytes_of}
use Rattle.image_file.proofs.Files.{length_file, accepted_writing}
use Rattle.image_file.proofs.write_image.Goals as goal

pub returns-then-end-out : goal.returns-then-end-out
returns-then-end-out c = search (rules, length_file)

pub returns : goal.returns
returns c =
    let image = c.args.image.now in
    let n = length c.args.out.now in
    let end = 5 + 2 * length image in
    let zeros : c.fill.new.self ≡ blank n = c.fill.ensures.after (λ y e. search rules) in
    let headed : put_mid 0 5 c.fill.new.self c.copy_from_slice.new.self ≡ padded head n =
    ap (λ buffer. put_mid 0 5 buffer c.copy_from_slice.new.self) zeros
    ∙ overlaid_from_copy 0 5 (blank n) _ head c.copy_from_slice.ensures.after (omega arith)
    ∙ overlaid_blank head n in
    let filled : put_mid 5 (end - 5) (put_mid 0 5 c.fill.new.self c.copy_from_slice.new.self) c.write_words.new.bytes ≡ padded (file_of image) n =
    ap (λ buffer. put_mid 5 (end - 5) buffer c.write_words.new.bytes) headed
    ∙ overlaid_from_copy 5 (end - 5) (padded head n) _ (bytes_of image) c.write_words.ensures (omega (arith, length_bytes_of image))
    ∙ overlaid_padded head (bytes_of image) n in
    let shown = accepted_writing image n end _ c.if-image-gt-MAX_WORDS.false (omega arith) (omega arith) filled in
    record { answer = shown.0; after = shown.1; within = omega arith; reads_back = shown.2 }
