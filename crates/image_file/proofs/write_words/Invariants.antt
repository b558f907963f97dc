use Rattle.std.proofs.Common.{◌≡◌, ◌*◌, ◌++◌, take, drop}
use Rattle.image_file.specs.Bytes.{bytes_of}
use Rattle.image_file.proofs.write_words.Given as goal

abbrev pub invariant-loop-i : goal.invariant-loop-i
invariant-loop-i l = take (2 * l.i) l.bytes ++ bytes_of (drop l.i l.words) ≡ bytes_of l.words
