-- The fields of a word, read back.
use Rattle.std.proofs.Common.{◌≡◌, ℕ, ◌+◌, ◌*◌, ◌/◌, ◌%◌, ◌<◌, arith}
use Rattle.std.proofs.lemmas.Bool.Decides.{nat_tests}
use Rattle.words.specs.declared.registers.Register.{Register}
use Rattle.words.specs.Registers.{number_of, register_of}
use Rattle.words.specs.Coding.{rd_of, rs1_of}

pub number_below : (r : Register) → number_of r < 8
number_below r = grind arith

-- the register in three bits, by its number
pub register_is : (bits : ℕ) (r : Register) → bits % 8 ≡ number_of r → register_of bits ≡ r
register_is bits r e = grind (arith, nat_tests)

-- a word of an opcode, Rd and nine bits
pub record Fields8 (w code : ℕ) (rd : Register) (low : ℕ) : Type 0 where
  pub code_is : w / 4096 ≡ code
  pub rd_is : rd_of w ≡ rd
  pub low_is : w % 512 ≡ low

-- a word of an opcode, Rd, Rs1 and six bits
pub record Fields6 (w code : ℕ) (rd rs1 : Register) (low : ℕ) : Type 0 where
  pub code_is : w / 4096 ≡ code
  pub rd_is : rd_of w ≡ rd
  pub rs1_is : rs1_of w ≡ rs1
  pub low_is : w % 64 ≡ low

pub fields8 : (w code : ℕ) (rd : Register) (low : ℕ) → w ≡ code * 4096 + number_of rd * 512 + low → low < 512 → Fields8 w code rd low
fields8 w code rd low e h =
    let d = number_below rd in
    record { code_is = omega arith; rd_is = register_is (w / 512) rd (omega arith); low_is = omega arith }

pub fields6 : (w code : ℕ) (rd rs1 : Register) (low : ℕ) → w ≡ code * 4096 + number_of rd * 512 + number_of rs1 * 64 + low → low < 64 → Fields6 w code rd rs1 low
fields6 w code rd rs1 low e h =
    let a = number_below rs1 in
    let f = fields8 w code rd (number_of rs1 * 64 + low) (omega arith) (omega arith) in
    record { code_is = f.code_is; rd_is = f.rd_is; rs1_is = register_is (w / 64) rs1 (omega (arith, f.low_is)); low_is = omega (arith, f.low_is) }
