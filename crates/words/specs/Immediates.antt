-- Immediates by their bit patterns, and their signed values as words. Assumes nothing.
use Rattle.std.specs.Prelude.{ℕ, suc, ◌+◌, ◌-◌, ◌/◌, ◌%◌, cond, nat_lt}
use Rattle.std.proofs.Math.Nat.{mod-lt, zero-lt-suc, le_of_suc-le-suc}
use Rattle.words.specs.declared.immediates.Imm.{Imm}

-- the immediate of the patterns 0 to MAX that a number stands for modulo MAX + 1
abbrev pub imm_of : (MAX : ℕ) → ℕ → Imm MAX
imm_of MAX n = record { bits = n % suc MAX; fits = le_of_suc-le-suc (mod-lt n (zero-lt-suc MAX)) }

-- the immediate in the low six bits
abbrev pub imm6_of : ℕ → Imm 63
imm6_of n = imm_of 63 n

-- the immediate in the low eight bits
abbrev pub imm8_of : ℕ → Imm 255
imm8_of n = imm_of 255 n

-- the word with the signed value of an immediate, of whose patterns the upper half is negative
abbrev pub extended : {MAX : ℕ} → Imm MAX → ℕ
extended {MAX} i = cond (nat_lt i.bits ((MAX + 1) / 2)) i.bits (i.bits + (65535 - MAX))
