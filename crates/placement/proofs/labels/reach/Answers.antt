use Rattle.std.proofs.Common.{rules}
use Rattle.placement.proofs.Reach.{near}
use Rattle.placement.proofs.labels.reach.Goals as goal

pub returns-else-not-contains : goal.returns-else-not-contains
returns-else-not-contains c =
    near c.args.address c.in-Label.value (search rules) (search rules) c.args.imm c.from_bits-in-Label.result c.in-Label.is (search rules)
