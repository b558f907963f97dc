use Rattle.std.proofs.Common.{◌≡◌}
use Rattle.lines.specs.Places.{parts}
use Rattle.operations.specs.Fields.{exactly}
use Rattle.operations.proofs.fields.check_fields.Given as goal

abbrev pub invariant-loop-field : goal.invariant-loop-field
invariant-loop-field l =
    exactly l.left (parts l.field-iterator.rest.now) ≡ exactly l.initial.count (parts l.initial.fields.rest.now)
