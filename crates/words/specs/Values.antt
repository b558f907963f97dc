-- What functions, tests and shifts make of words. Assumes nothing.
use Rattle.std.specs.Prelude.{ℕ, ◌+◌, ◌-◌, ◌*◌, ◌/◌, ◌%◌, ◌^◌, Bool, cond, not, ◌||◌, ◌==◌, bit_and, bit_or, nat_le, nat_lt}
use Rattle.words.specs.declared.instructions.Function.{Function}
use Rattle.words.specs.declared.instructions.Function.TheVariants.{Add, Sub, And, Or}
use Rattle.words.specs.declared.instructions.Test.{Test}
use Rattle.words.specs.declared.instructions.Test.TheVariants.{Equal, NotEqual, Greater, GreaterEqual, Less, LessEqual}

-- sums are taken modulo 65,536
abbrev pub wrapped : ℕ → ℕ
wrapped n = n % 65536

-- what a function makes of two words
abbrev pub computed : Function → ℕ → ℕ → ℕ
computed Add a b = wrapped (a + b)
computed Sub a b = wrapped (a + (65536 - b))
computed And a b = bit_and a b
computed Or a b = bit_or a b

-- the word's signed value is below 0
abbrev pub negative : ℕ → Bool
negative w = nat_le 32768 w

-- a test of a word's signed value against 0
abbrev pub passes : Test → ℕ → Bool
passes Equal w = w == 0
passes NotEqual w = not (w == 0)
passes Greater w = not (w == 0 || negative w)
passes GreaterEqual w = not (negative w)
passes Less w = negative w
passes LessEqual w = w == 0 || negative w

-- the word shifted by a 6-bit pattern: left below 32, else right
abbrev pub shifted : ℕ → ℕ → ℕ
shifted w bits = cond (nat_lt bits 32) (wrapped (w * 2 ^ bits)) (w / 2 ^ (64 - bits))
