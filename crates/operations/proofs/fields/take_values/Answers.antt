use Rattle.lines.specs.Places.{parts}
use Rattle.operations.proofs.Takes.{values_taken}
use Rattle.operations.proofs.fields.take_values.Goals as goal

pub returns : goal.returns
returns c = values_taken (parts c.args.fields.rest.now) c.in_ok-check_some.ensures c.in_ok-count.count c.in_ok-count.ensures
