use Rattle.std.proofs.Common.{◌≡◌, ◌+◌, ◌≤◌, length}
use Rattle.faults.specs.Chains.{under, gathered}
use Rattle.operands.specs.Texts.{characters}
use Rattle.operations.proofs.fields.count_characters.Given as goal

abbrev pub invariant-loop-character : goal.invariant-loop-character
invariant-loop-character l =
    let left = l.character-iterator.rest.now in
    let all = l.initial.text.rest.now in
    (under (λ xs. length xs + l.count) (gathered (characters left)) ≡ under length (gathered (characters all))) × (l.count + length left ≤ length all)
