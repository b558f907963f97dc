use Rattle.std.proofs.Common.{◌≡◌, ◌+◌, ◌++◌, length, take, map, Ok}
use Rattle.faults.specs.Chains.{then, gathered}
use Rattle.lines.specs.Places.{parts}
use Rattle.operands.specs.Operands.{register}
use Rattle.operations.specs.Reading.{operand}
use Rattle.operations.proofs.reading.read_registers.Given as goal

abbrev pub invariant-loop-register : goal.invariant-loop-register
invariant-loop-register g l =
    (then (gathered (map (λ f. operand (register f)) (parts l.fields.rest.now))) (λ rs. Ok (take l.register-index l.register-items ++ rs)) ≡ gathered (map (λ f. operand (register f)) (parts l.initial.fields.rest.now)))
    × (length (parts l.fields.rest.now) + l.register-index ≡ g.row.N)
    × (length l.register-items ≡ g.row.N)
