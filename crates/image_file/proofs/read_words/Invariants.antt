use Rattle.std.proofs.Common.{◌≡◌, map, take}
use Rattle.image_file.specs.Bytes.{word_of}
use Rattle.image_file.proofs.read_words.Given as goal

abbrev pub invariant-loop-i : goal.invariant-loop-i
invariant-loop-i l = take l.i l.words ≡ map word_of (take l.i l.pairs)
