-- The word of each instruction, and the instruction of each word. Assumes nothing.
use Rattle.std.specs.Prelude.{ℕ, ◌+◌, ◌*◌, ◌/◌, ◌%◌, cond, Some, None, Option, ◌==◌}
use Rattle.words.specs.declared.registers.Register.{Register}
use Rattle.words.specs.declared.registers.Register.TheVariants.{R0}
use Rattle.words.specs.declared.instructions.ThreeRegisters.{ThreeRegisters}
use Rattle.words.specs.declared.instructions.TwoRegisters.{TwoRegisters}
use Rattle.words.specs.declared.instructions.RegistersImm6.{RegistersImm6}
use Rattle.words.specs.declared.instructions.RegisterImm8.{RegisterImm8}
use Rattle.words.specs.declared.instructions.Function.{Function}
use Rattle.words.specs.declared.instructions.Function.TheVariants.{Add, Sub, And, Or}
use Rattle.words.specs.declared.instructions.Test.{Test}
use Rattle.words.specs.declared.instructions.Test.TheVariants.{Equal, NotEqual, Greater, GreaterEqual, Less, LessEqual}
use Rattle.words.specs.declared.instructions.Instruction.{Instruction}
use Rattle.words.specs.declared.instructions.Instruction.TheVariants.{Compute, Not, Jalr, In, Out, Addi, Shf, Lw, Sw, Lli, Lui, Branch}
use Rattle.words.specs.Registers.{number_of, register_of}
use Rattle.words.specs.Immediates.{imm6_of, imm8_of}

-- the function codes of opcode 0
abbrev pub function_code : Function → ℕ
function_code Add = 0
function_code Sub = 1
function_code And = 2
function_code Or = 3

-- the opcodes of the branches
abbrev pub test_code : Test → ℕ
test_code Equal = 10
test_code NotEqual = 11
test_code Greater = 12
test_code GreaterEqual = 13
test_code Less = 14
test_code LessEqual = 15

-- the three formats: opcode in bits 15-12, Rd 11-9, Rs1 8-6, Rs2 5-3, function code 2-0; Imm6 5-0; Imm8 7-0
abbrev pub of_registers : ℕ → Register → Register → Register → ℕ → ℕ
of_registers code rd rs1 rs2 function = code * 4096 + number_of rd * 512 + number_of rs1 * 64 + number_of rs2 * 8 + function

abbrev pub of_imm6 : ℕ → RegistersImm6 → ℕ
of_imm6 code o = code * 4096 + number_of o.rd * 512 + number_of o.rs1 * 64 + o.imm.bits

abbrev pub of_imm8 : ℕ → RegisterImm8 → ℕ
of_imm8 code o = code * 4096 + number_of o.rd * 512 + o.imm.bits

-- the word of each instruction; unused fields are written as zero
abbrev pub encoded : Instruction → ℕ
encoded (Compute f o) = of_registers 0 o.rd o.rs1 o.rs2 (function_code f)
encoded (Not o) = of_registers 0 o.rd o.rs1 R0 4
encoded (Jalr o) = of_registers 1 o.rd o.rs1 R0 0
encoded (In rd) = of_registers 2 rd R0 R0 0
encoded (Out rd) = of_registers 3 rd R0 R0 0
encoded (Addi o) = of_imm6 4 o
encoded (Shf o) = of_imm6 5 o
encoded (Lw o) = of_imm6 6 o
encoded (Sw o) = of_imm6 7 o
encoded (Lli o) = of_imm8 8 o
encoded (Lui o) = of_imm8 9 o
encoded (Branch t o) = of_imm8 (test_code t) o

-- the fields of a word
abbrev pub rd_of : ℕ → Register
rd_of w = register_of (w / 512)

abbrev pub rs1_of : ℕ → Register
rs1_of w = register_of (w / 64)

abbrev pub three_of : ℕ → ThreeRegisters
three_of w = record { rd = rd_of w; rs1 = rs1_of w; rs2 = register_of (w / 8) }

abbrev pub two_of : ℕ → TwoRegisters
two_of w = record { rd = rd_of w; rs1 = rs1_of w }

abbrev pub with_imm6 : ℕ → RegistersImm6
with_imm6 w = record { rd = rd_of w; rs1 = rs1_of w; imm = imm6_of w }

abbrev pub with_imm8 : ℕ → RegisterImm8
with_imm8 w = record { rd = rd_of w; imm = imm8_of w }

-- opcode 0, by the function code; 5 to 7 are unassigned
abbrev pub by_function : ℕ → ℕ → Option Instruction
by_function function w =
    cond (function == 0) (Some (Compute Add (three_of w)))
    (cond (function == 1) (Some (Compute Sub (three_of w)))
    (cond (function == 2) (Some (Compute And (three_of w)))
    (cond (function == 3) (Some (Compute Or (three_of w)))
    (cond (function == 4) (Some (Not (two_of w))) None))))

-- by the opcode; opcode 3 is assigned with function code 0 alone
abbrev pub by_opcode : ℕ → ℕ → Option Instruction
by_opcode code w =
    cond (code == 0) (by_function (w % 8) w)
    (cond (code == 1) (Some (Jalr (two_of w)))
    (cond (code == 2) (Some (In (rd_of w)))
    (cond (code == 3) (cond (w % 8 == 0) (Some (Out (rd_of w))) None)
    (cond (code == 4) (Some (Addi (with_imm6 w)))
    (cond (code == 5) (Some (Shf (with_imm6 w)))
    (cond (code == 6) (Some (Lw (with_imm6 w)))
    (cond (code == 7) (Some (Sw (with_imm6 w)))
    (cond (code == 8) (Some (Lli (with_imm8 w)))
    (cond (code == 9) (Some (Lui (with_imm8 w)))
    (cond (code == 10) (Some (Branch Equal (with_imm8 w)))
    (cond (code == 11) (Some (Branch NotEqual (with_imm8 w)))
    (cond (code == 12) (Some (Branch Greater (with_imm8 w)))
    (cond (code == 13) (Some (Branch GreaterEqual (with_imm8 w)))
    (cond (code == 14) (Some (Branch Less (with_imm8 w)))
    (Some (Branch LessEqual (with_imm8 w)))))))))))))))))

-- the instruction that a word stands for, if it is assigned
abbrev pub decoded : ℕ → Option Instruction
decoded w = by_opcode (w / 4096) w

-- the cycles that an instruction's word costs
abbrev pub cost_of : Instruction → ℕ
cost_of i = 1
