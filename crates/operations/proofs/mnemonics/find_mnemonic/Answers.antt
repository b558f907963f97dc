use Rattle.std.proofs.Common.{rules}
use Rattle.operations.specs.Mnemonics.{mnemonic}
use Rattle.operations.proofs.mnemonics.find_mnemonic.Goals as goal

pub returns : goal.returns
unfolding mnemonic
returns c = search rules
