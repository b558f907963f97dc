use Rattle.std.proofs.Common.{◌≡◌, ◌+◌, ◌≤◌, length}
use Rattle.faults.specs.Chains.{under, gathered}
use Rattle.operands.specs.Operands.{values}
use Rattle.operations.proofs.fields.count_values.Given as goal

abbrev pub invariant-loop-value : goal.invariant-loop-value
invariant-loop-value l =
    let left = l.value-iterator.rest.now in
    let all = l.initial.fields.rest.now in
    (under (λ xs. length xs + l.count) (gathered (values left)) ≡ under length (gathered (values all))) × (l.count + length left ≤ length all)
