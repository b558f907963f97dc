use Rattle.std.proofs.Common.{◌≡◌, drop}
use Rattle.lines.specs.Places.{allowed_from, allowed}
use Rattle.lines.proofs.is_allowed.Given as goal

abbrev pub invariant-loop-b : goal.invariant-loop-b
invariant-loop-b l = allowed_from l.place (drop l.b-index l.line) ≡ allowed l.line
