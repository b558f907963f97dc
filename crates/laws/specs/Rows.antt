-- One word of each operation with what it does, and a whole run. Assumes nothing.
use Rattle.std.specs.Prelude.{◌≡◌, ℕ, true, false, List, [], ◌∷◌, ◌++◌, replicate, Some, None, slice_set}
use Rattle.port.specs.Meaning.{Meaning}
use Rattle.words.specs.declared.Register.{Register}
use Rattle.words.specs.declared.Register.TheVariants.{R0, R1, R2, R3, R4, R5, R6}
use Rattle.words.specs.declared.Function.TheVariants.{Add, Sub, And, Or}
use Rattle.words.specs.declared.Test.TheVariants.{Equal, NotEqual, Greater, GreaterEqual, Less, LessEqual}
use Rattle.words.specs.declared.ThreeRegisters.{ThreeRegisters}
use Rattle.words.specs.declared.TwoRegisters.{TwoRegisters}
use Rattle.words.specs.declared.RegistersImm6.{RegistersImm6}
use Rattle.words.specs.declared.RegisterImm8.{RegisterImm8}
use Rattle.words.specs.declared.Instruction.{Instruction}
use Rattle.words.specs.declared.Instruction.TheVariants.{Compute, Not, Jalr, In, Out, Addi, Shf, Lw, Sw, Lli, Lui, Branch}
use Rattle.words.specs.Registers.{number_of}
use Rattle.words.specs.Immediates.{imm6_of, imm8_of}
use Rattle.words.specs.Coding.{encoded, decoded}
use Rattle.cpu.specs.declared.Stop.TheVariants.{Halted, Outside, Unassigned}
use Rattle.cpu.specs.States.{State}
use Rattle.cpu.specs.Steps.{did, met, step_of}
use Rattle.machine.specs.Runs.{Ran, run_of}
use Rattle.machine.specs.Calls.{fresh}

abbrev three : Register → Register → Register → ThreeRegisters
three d a b = record { rd = d; rs1 = a; rs2 = b }

abbrev two : Register → Register → TwoRegisters
two d a = record { rd = d; rs1 = a }

abbrev six : Register → Register → ℕ → RegistersImm6
six d a n = record { rd = d; rs1 = a; imm = imm6_of n }

abbrev eight : Register → ℕ → RegisterImm8
eight d n = record { rd = d; imm = imm8_of n }

-- r1 to r7 hold 5, 3, -2, 40, 0x1234, 0 and 63; 64 words of memory, 0x00AA at 42; one word waits, one place is free
abbrev registers : List ℕ
registers = 0 ∷ 5 ∷ 3 ∷ 65534 ∷ 40 ∷ 0x1234 ∷ 0 ∷ 63 ∷ []

abbrev port : Meaning
port = record { waiting = 0x0077 ∷ []; sent = []; free = 1 }

-- with a word at the place 8
abbrev pub sample : ℕ → State
sample w = record {
  registers = registers;
  place = 8;
  halted = false;
  memory = slice_set (slice_set (replicate 64 0) 42 0x00AA) 8 w;
  port = port;
}

-- the state in which a register has received a word, at a place
abbrev got : ℕ → Register → ℕ → ℕ → State
got w r v place = record {
  registers = slice_set registers (number_of r) v;
  place = place;
  halted = false;
  memory = (sample w).memory;
  port = port;
}

-- the state at another place
abbrev at : ℕ → ℕ → State
at w place = record { registers = registers; place = place; halted = false; memory = (sample w).memory; port = port }

-- a word, the instruction that it stands for, and the state after it is done at the place 8
pub record Row (w : ℕ) (i : Instruction) (after : State) : Type 0 where
  pub written_as : encoded i ≡ w
  pub read_as : decoded w ≡ Some i
  pub done : step_of (sample w) ≡ did 1 after

pub record Rows : Type 0 where
  pub add : Row 0x0C50 (Compute Add (three R6 R1 R2)) (got 0x0C50 R6 8 9)
  pub sub : Row 0x0C89 (Compute Sub (three R6 R2 R1)) (got 0x0C89 R6 0xFFFE 9)
  pub and : Row 0x0C52 (Compute And (three R6 R1 R2)) (got 0x0C52 R6 1 9)
  pub or : Row 0x0C53 (Compute Or (three R6 R1 R2)) (got 0x0C53 R6 7 9)
  pub not : Row 0x0C44 (Not (two R6 R1)) (got 0x0C44 R6 0xFFFA 9)
  pub jalr : Row 0x1980 (Jalr (two R4 R6)) (got 0x1980 R6 9 40)
  pub «in» : Row 0x2C00 (In R6) (record {
    registers = slice_set registers 6 0x0077;
    place = 9;
    halted = false;
    memory = (sample 0x2C00).memory;
    port = record { waiting = []; sent = []; free = 1 };
  })
  pub out : Row 0x3200 (Out R1) (record {
    registers = registers;
    place = 9;
    halted = false;
    memory = (sample 0x3200).memory;
    port = record { waiting = 0x0077 ∷ []; sent = 5 ∷ []; free = 0 };
  })
  pub out_r0 : Row 0x3000 (Out R0) (record {
    registers = registers;
    place = 8;
    halted = true;
    memory = (sample 0x3000).memory;
    port = port;
  })
  pub addi : Row 0x4C7A (Addi (six R6 R1 58)) (got 0x4C7A R6 0xFFFF 9)
  pub shf_left : Row 0x5C42 (Shf (six R6 R1 2)) (got 0x5C42 R6 20 9)
  pub shf_right : Row 0x5CF1 (Shf (six R6 R3 49)) (got 0x5CF1 R6 1 9)
  pub lw : Row 0x6D02 (Lw (six R6 R4 2)) (got 0x6D02 R6 0x00AA 9)
  pub sw : Row 0x7B03 (Sw (six R5 R4 3)) (record {
    registers = registers;
    place = 9;
    halted = false;
    memory = slice_set (sample 0x7B03).memory 43 0x1234;
    port = port;
  })
  pub lli : Row 0x8C80 (Lli (eight R6 128)) (got 0x8C80 R6 0xFF80 9)
  pub lui : Row 0x9AAB (Lui (eight R5 0xAB)) (got 0x9AAB R5 0xAB34 9)
  pub beq : Row 0xAC03 (Branch Equal (eight R6 3)) (at 0xAC03 12)
  pub bne : Row 0xBC03 (Branch NotEqual (eight R6 3)) (at 0xBC03 9)
  pub bgt : Row 0xC2FB (Branch Greater (eight R1 251)) (at 0xC2FB 4)
  pub bge : Row 0xD603 (Branch GreaterEqual (eight R3 3)) (at 0xD603 9)
  pub blt : Row 0xE603 (Branch Less (eight R3 3)) (at 0xE603 12)
  pub ble : Row 0xF203 (Branch LessEqual (eight R1 3)) (at 0xF203 9)
  pub lw_outside : step_of (sample 0x6DC1) ≡ met Outside (sample 0x6DC1)
  pub function_5 : (decoded 0x0005 ≡ None) × (step_of (sample 0x0005) ≡ met Unassigned (sample 0x0005))
  pub function_1 : (decoded 0x3001 ≡ None) × (step_of (sample 0x3001) ≡ met Unassigned (sample 0x3001))

-- lwi r1 3; next: out r1; addi r1 r1 -1; bgt r1 &next; halt
abbrev count_down_image : List ℕ
count_down_image = 0x8203 ∷ 0x9200 ∷ 0x3200 ∷ 0x427F ∷ 0xC2FD ∷ 0x3000 ∷ []

-- the image with zeros behind it, in 64 words
abbrev loaded : List ℕ
loaded = count_down_image ++ replicate 58 0

abbrev pub counted_down : Ran
counted_down = run_of 1000 (fresh (Some 64) loaded (record { waiting = []; sent = []; free = 10 })).state

pub record CountDown : Type 0 where
  pub stop : counted_down.stop ≡ Halted
  pub cycles : counted_down.cycles ≡ 12
  pub sent : counted_down.after.port.sent ≡ 3 ∷ 2 ∷ 1 ∷ []
