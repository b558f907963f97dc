use Rattle.std.proofs.Common.{arith}
use Rattle.std.proofs.lemmas.Grind.{common_steps}
use Rattle.numbers.proofs.Told.{told_texts}
use Rattle.numbers.proofs.read_number.Goals as goal

pub returns-in-48-clause-texts : goal.returns-in-48-clause-texts
returns-in-48-clause-texts c = told_texts _ _ _ (grind (arith, common_steps))

pub returns-in-48-2-clause-texts : goal.returns-in-48-2-clause-texts
returns-in-48-2-clause-texts c = told_texts _ _ _ (grind (arith, common_steps))

pub returns-in_default-clause-texts : goal.returns-in_default-clause-texts
returns-in_default-clause-texts c = told_texts _ _ _ (grind (arith, common_steps))
