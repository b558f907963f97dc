-- An operation with its own fields, from the parts behind its name. Assumes nothing.
use Rattle.std.specs.Prelude.{ℕ, List, map, slice_index_or, Ok, Result}
use Rattle.words.specs.declared.Register.{Register}
use Rattle.words.specs.declared.Register.TheVariants.{R0}
use Rattle.words.specs.declared.ThreeRegisters.{ThreeRegisters}
use Rattle.words.specs.declared.TwoRegisters.{TwoRegisters}
use Rattle.operands.specs.declared.Immediate.{Immediate}
use Rattle.operands.specs.Operands.{register, constant, immediate}
use Rattle.faults.specs.declared.OperandFault.{OperandFault}
use Rattle.faults.specs.declared.StatementFault.{StatementFault}
use Rattle.faults.specs.declared.StatementFault.TheVariants.{InOperand}
use Rattle.faults.specs.Chains.{and_then, then, under, gathered}
use Rattle.operations.specs.declared.mnemonics.Mnemonic.{Mnemonic}
use Rattle.operations.specs.declared.mnemonics.Mnemonic.TheVariants as name
use Rattle.operations.specs.declared.kinds.RegistersNumber.{RegistersNumber}
use Rattle.operations.specs.declared.kinds.RegisterImmediate.{RegisterImmediate}
use Rattle.operations.specs.declared.kinds.StackRegisters.{StackRegisters}
use Rattle.operations.specs.declared.kinds.Operation.TheVariants.{Compute, Not, Jalr, In, Out, Addi, Shf, Lw, Sw, Lli, Lui, Branch, Br, Halt, Jmp, Mov, Lwi, Push, Pop, Fill, Cstr, Def}
use Rattle.operations.specs.Fields.{exactly, some_fields, first_field, only_field, string}
use Rattle.operations.specs.Kinds.{Read}

-- an operand's answer as its statement's
abbrev pub operand : {X : Type 0} → Result X OperandFault → Result X StatementFault
operand r = and_then r InOperand (λ x. Ok x)

-- fields are counted first, and then read from left to right

-- so many registers
abbrev pub registers : ℕ → List (List ℕ) → Result (List Register) StatementFault
registers n fs = then (exactly n fs) (λ right. gathered (map (λ f. operand (register f)) fs))

abbrev pub three_registers : List (List ℕ) → Result ThreeRegisters StatementFault
three_registers fs =
    under (λ rs. record { rd = slice_index_or rs 0 R0; rs1 = slice_index_or rs 1 R0; rs2 = slice_index_or rs 2 R0 }) (registers 3 fs)

abbrev pub two_registers : List (List ℕ) → Result TwoRegisters StatementFault
two_registers fs = under (λ rs. record { rd = slice_index_or rs 0 R0; rs1 = slice_index_or rs 1 R0 }) (registers 2 fs)

abbrev pub stack_registers : List (List ℕ) → Result StackRegisters StatementFault
stack_registers fs = under (λ rs. record { sp = slice_index_or rs 0 R0; register = slice_index_or rs 1 R0 }) (registers 2 fs)

abbrev pub one_register : List (List ℕ) → Result Register StatementFault
one_register fs = under (λ rs. slice_index_or rs 0 R0) (registers 1 fs)

abbrev pub registers_number : List (List ℕ) → Result RegistersNumber StatementFault
registers_number fs =
    then (exactly 3 fs) (λ right.
    then (first_field fs) (λ a. and_then (register a.0) InOperand (λ rd.
    then (first_field a.1) (λ b. and_then (register b.0) InOperand (λ rs1.
    then (first_field b.1) (λ c. and_then (constant 6 c.0) InOperand (λ n. Ok (record { rd = rd; rs1 = rs1; number = n }))))))))

abbrev pub register_immediate : ℕ → List (List ℕ) → Result (RegisterImmediate (List ℕ)) StatementFault
register_immediate bits fs =
    then (exactly 2 fs) (λ right.
    then (first_field fs) (λ a. and_then (register a.0) InOperand (λ rd.
    then (first_field a.1) (λ b. and_then (immediate bits b.0) InOperand (λ imm. Ok (record { rd = rd; imm = imm }))))))

abbrev pub one_immediate : List (List ℕ) → Result (Immediate (List ℕ)) StatementFault
one_immediate fs = then (only_field fs) (λ f. operand (immediate 8 f))

abbrev pub one_constant : List (List ℕ) → Result ℕ StatementFault
one_constant fs = then (only_field fs) (λ f. operand (constant 16 f))

abbrev pub all_values : List (List ℕ) → Result (List (Immediate (List ℕ))) StatementFault
all_values fs = then (some_fields fs) (λ some. operand (gathered (map (immediate 16) fs)))

-- each operation with its fields
abbrev pub operation : Mnemonic → List (List ℕ) → Result Read StatementFault
operation (name.Compute f) fs = under (Compute f) (three_registers fs)
operation name.Not fs = under Not (two_registers fs)
operation name.Jalr fs = under Jalr (two_registers fs)
operation name.In fs = under In (one_register fs)
operation name.Out fs = under Out (one_register fs)
operation name.Addi fs = under Addi (registers_number fs)
operation name.Shf fs = under Shf (registers_number fs)
operation name.Lw fs = under Lw (registers_number fs)
operation name.Sw fs = under Sw (registers_number fs)
operation name.Lli fs = under Lli (register_immediate 8 fs)
operation name.Lui fs = under Lui (register_immediate 8 fs)
operation (name.Branch t) fs = under (Branch t) (register_immediate 8 fs)
operation name.Br fs = under Br (one_immediate fs)
operation name.Halt fs = under (λ end. Halt) (exactly 0 fs)
operation name.DotHalt fs = under (λ end. Halt) (exactly 0 fs)
operation name.Jmp fs = under Jmp (one_register fs)
operation name.Mov fs = under Mov (two_registers fs)
operation name.Lwi fs = under Lwi (register_immediate 16 fs)
operation name.Push fs = under Push (stack_registers fs)
operation name.Pop fs = under Pop (stack_registers fs)
operation name.Fill fs = under Fill (all_values fs)
operation name.Cstr fs = under Cstr (string fs)
operation name.Def fs = under Def (one_constant fs)
