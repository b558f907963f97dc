use Rattle.std.proofs.Common.{◌≡◌, arith}
use Rattle.std.proofs.lemmas.Grind.{common_steps}
use Rattle.numbers.specs.Hex.{hex4}
use Rattle.numbers.proofs.Spelled.{hex_reads}
use Rattle.numbers.proofs.hex.write_hex.Goals as goal

pub returns-clause-reads : goal.returns-clause-reads
returns-clause-reads c =
    let word = c.args.word in
    let is : c.map.result ≡ hex4 word = grind (arith, common_steps) in
    rw (is) (hex_reads word (omega arith))
