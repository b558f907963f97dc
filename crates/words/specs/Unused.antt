-- The bits of a word that its instruction does not use, and what holds of them. Assumes nothing.
use Rattle.std.specs.Prelude.{◌≡◌, ℕ, ◌+◌, ◌*◌, ◌/◌, ◌%◌, Some, None, Option}
use Rattle.words.specs.declared.instructions.Instruction.{Instruction}
use Rattle.words.specs.declared.instructions.Instruction.TheVariants.{Compute, Not, Jalr, In, Out, Addi, Shf, Lw, Sw, Lli, Lui, Branch}
use Rattle.words.specs.Coding.{encoded, decoded}

-- the part of a word that lies in the fields that an instruction does not use
abbrev pub unused : Instruction → ℕ → ℕ
unused (Compute f o) w = 0
unused (Not o) w = w / 8 % 8 * 8
unused (Jalr o) w = w % 64
unused (In rd) w = w % 512
unused (Out rd) w = w / 8 % 64 * 8
unused (Addi o) w = 0
unused (Shf o) w = 0
unused (Lw o) w = 0
unused (Sw o) w = 0
unused (Lli o) w = w / 256 % 2 * 256
unused (Lui o) w = w / 256 % 2 * 256
unused (Branch t o) w = w / 256 % 2 * 256

-- whatever the unused bits hold, a word stands for the same instruction
abbrev pub UnusedIgnored : Type 0
UnusedIgnored = (i : Instruction) (bits : ℕ) → decoded (encoded i + unused i bits) ≡ Some i

-- an assigned word is its instruction's word and its unused bits
abbrev pub WordOf : ℕ → Option Instruction → Type 0
WordOf w None = Unit {0}
WordOf w (Some i) = encoded i + unused i w ≡ w
