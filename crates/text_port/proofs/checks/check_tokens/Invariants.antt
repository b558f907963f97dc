use Rattle.std.proofs.Common.{◌≡◌, ◌+◌}
use Rattle.text_port.specs.Tokens.{tokens}
use Rattle.text_port.specs.Checking.{judging}
use Rattle.text_port.proofs.checks.check_tokens.Given as goal

abbrev pub invariant-loop-i : goal.invariant-loop-i
invariant-loop-i l = judging (l.i-iterator.count + 1) (tokens l.i-iterator.iter.rest.now) ≡ judging 1 (tokens l.text)
