use Rattle.std.proofs.Common.{◌≡◌, ◌/◌, ◌%◌, ◌<◌, get_or, ap, ◌∙◌, arith}
use Rattle.image_file.proofs.Bytes.{written_more, written_all}
use Rattle.image_file.proofs.write_words.Goals as goal

pub loop-i-preserved : goal.loop-i-preserved
loop-i-preserved c =
    let word = get_or c.args.words.now c.loop-i.i 0 in
    let small : word < 65536 = (c.type_inv.words c.loop-i.i).fits in
    let above : word / 256 % 256 ≡ word / 256 = omega arith in
    written_more c.args.words.now c.loop-i.bytes c.loop-i.i _ _ (omega arith) (omega arith)
    (ap (λ bytes. get_or bytes 0 0) c.to_be_bytes.ensures ∙ above)
    (ap (λ bytes. get_or bytes 1 0) c.to_be_bytes.ensures)
    c.loop-i.invariant

pub returns : goal.returns
returns c = written_all c.args.words.now c.loop-i.bytes c.loop-i.i (omega arith) (omega arith) c.loop-i.invariant
