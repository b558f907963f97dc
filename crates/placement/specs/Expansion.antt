-- What an operation with its labels' values places: instructions or data words. Assumes nothing.
use Rattle.std.specs.Prelude.{ℕ, ◌+◌, ◌-◌, ◌/◌, List, [], ◌∷◌, ◌++◌, map}
use Rattle.words.specs.declared.Register.TheVariants.{R0}
use Rattle.words.specs.declared.Imm.{Imm}
use Rattle.words.specs.declared.RegistersImm6.{RegistersImm6}
use Rattle.words.specs.declared.RegisterImm8.{RegisterImm8}
use Rattle.words.specs.declared.Function.TheVariants.{Add}
use Rattle.words.specs.declared.Test.TheVariants.{Equal}
use Rattle.words.specs.declared.Instruction.{Instruction}
use Rattle.words.specs.declared.Instruction.TheVariants as word
use Rattle.words.specs.Immediates.{imm6_of, imm8_of}
use Rattle.words.specs.Coding.{encoded}
use Rattle.operands.specs.declared.Immediate.{Immediate}
use Rattle.operands.specs.declared.Immediate.TheVariants.{Number, Label}
use Rattle.operations.specs.declared.RegistersNumber.{RegistersNumber}
use Rattle.operations.specs.declared.RegisterImmediate.{RegisterImmediate}
use Rattle.operations.specs.declared.Operation.TheVariants.{Compute, Not, Jalr, In, Out, Addi, Shf, Lw, Sw, Lli, Lui, Branch, Br, Halt, Jmp, Mov, Lwi, Push, Pop, Fill, Cstr, Def}
use Rattle.placement.specs.Resolving.{Resolved, word_of}

-- instructions of the machine, or data
pub data Placed : Type 0 where
  code : List Instruction → Placed
  words : List ℕ → Placed

-- the words placed
abbrev pub words_in : Placed → List ℕ
words_in (code is) = map encoded is
words_in (words ws) = ws

-- the byte of `lui`: a number's own, or a label's upper one
abbrev pub upper_of : Immediate ℕ → Imm 255
upper_of (Number n) = imm8_of n
upper_of (Label v) = imm8_of (v / 256)

-- the distance of a branch: a number's own, or the label's value less the branch's address less 1
abbrev pub distance_of : ℕ → Immediate ℕ → Imm 255
distance_of address (Number n) = imm8_of n
distance_of address (Label v) = imm8_of (v + (65535 - address))

abbrev pub with_six : RegistersNumber → RegistersImm6
with_six o = record { rd = o.rd; rs1 = o.rs1; imm = imm6_of o.number }

abbrev pub with_eight : RegisterImmediate ℕ → Imm 255 → RegisterImm8
with_eight o imm = record { rd = o.rd; imm = imm }

-- each operation at an address; a pseudo-operation stands for its instructions
abbrev pub expanded : ℕ → Resolved → Placed
expanded address (Compute f o) = code (word.Compute f o ∷ [])
expanded address (Not o) = code (word.Not o ∷ [])
expanded address (Jalr o) = code (word.Jalr o ∷ [])
expanded address (In r) = code (word.In r ∷ [])
expanded address (Out r) = code (word.Out r ∷ [])
expanded address (Addi o) = code (word.Addi (with_six o) ∷ [])
expanded address (Shf o) = code (word.Shf (with_six o) ∷ [])
expanded address (Lw o) = code (word.Lw (with_six o) ∷ [])
expanded address (Sw o) = code (word.Sw (with_six o) ∷ [])
expanded address (Lli o) = code (word.Lli (with_eight o (imm8_of (word_of o.imm))) ∷ [])
expanded address (Lui o) = code (word.Lui (with_eight o (upper_of o.imm)) ∷ [])
expanded address (Branch t o) = code (word.Branch t (with_eight o (distance_of address o.imm)) ∷ [])
expanded address (Br imm) = code (word.Branch Equal (record { rd = R0; imm = distance_of address imm }) ∷ [])
expanded address Halt = code (word.Out R0 ∷ [])
expanded address (Jmp r) = code (word.Jalr (record { rd = r; rs1 = R0 }) ∷ [])
expanded address (Mov o) = code (word.Compute Add (record { rd = o.rd; rs1 = o.rs1; rs2 = R0 }) ∷ [])
expanded address (Lwi o) =
    code (word.Lli (with_eight o (imm8_of (word_of o.imm))) ∷ word.Lui (with_eight o (imm8_of (word_of o.imm / 256))) ∷ [])
expanded address (Push o) =
    code (word.Sw (record { rd = o.register; rs1 = o.sp; imm = imm6_of 0 }) ∷ word.Addi (record { rd = o.sp; rs1 = o.sp; imm = imm6_of 63 }) ∷ [])
expanded address (Pop o) =
    code (word.Addi (record { rd = o.sp; rs1 = o.sp; imm = imm6_of 1 }) ∷ word.Lw (record { rd = o.register; rs1 = o.sp; imm = imm6_of 0 }) ∷ [])
expanded address (Fill ws) = words ws
expanded address (Cstr cs) = words (cs ++ 0 ∷ [])
expanded address (Def n) = words []
