use Rattle.std.proofs.Common.{◌≡◌, ◌≤◌, drop}
use Rattle.numbers.specs.Reading.{digits_from}
use Rattle.numbers.proofs.Capped.{capped}
use Rattle.numbers.proofs.read_digits.Given as goal

abbrev pub invariant-loop-b : goal.invariant-loop-b
invariant-loop-b l = (capped (digits_from l.base l.n (drop l.b-index l.digits)) ≡ capped (digits_from l.base 0 l.digits)) × (l.n ≤ 65536)
