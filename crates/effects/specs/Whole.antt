-- Words and immediates as whole numbers. Assumes nothing.
use Rattle.std.specs.Prelude.{◌≡◌, ℕ, ◌+◌, ◌*◌, ◌/◌, ◌<◌, cond, ℤ, pos, ◌+ℤ◌, ◌-ℤ◌, nat_lt}
use Rattle.words.specs.declared.Imm.{Imm}

-- the signed value of a bit pattern from 0 to max, of which the upper half stands for a number that is max + 1 lower
abbrev pub signed_from : ℕ → ℕ → ℤ
signed_from max bits = cond (nat_lt bits ((max + 1) / 2)) (pos bits) (pos bits -ℤ pos (max + 1))

-- the signed value of a word, -32,768 to 32,767
abbrev pub signed : ℕ → ℤ
signed w = signed_from 65535 w

-- the signed value of an immediate: -32 to 31 with six bits, and -128 to 127 with eight
abbrev pub value : {MAX : ℕ} → Imm MAX → ℤ
value {MAX} i = signed_from MAX i.bits

-- the word of a whole number, taken modulo 65,536: word and number differ by a multiple of it
pub record Represents (w : ℕ) (z : ℤ) : Type 0 where
  pub word : w < 65536
  pub over : ℕ
  pub under : ℕ
  pub apart : z +ℤ pos (over * 65536) ≡ pos w +ℤ pos (under * 65536)

-- a whole number has one word
abbrev pub RepresentedOnce : Type 0
RepresentedOnce = (w v : ℕ) (z : ℤ) → Represents w z → Represents v z → w ≡ v

-- every word is the word of its signed value
abbrev pub SignedWord : Type 0
SignedWord = (w : ℕ) → w < 65536 → Represents w (signed w)
