-- The eight registers, and what a register file holds after a write. Assumes nothing.
use Rattle.std.specs.Prelude.{ℕ, ◌%◌, cond, List, replicate, ◌==◌, slice_index, slice_set}
use Rattle.words.specs.declared.registers.Register.{Register}
use Rattle.words.specs.declared.registers.Register.TheVariants.{R0, R1, R2, R3, R4, R5, R6, R7}

-- a register's number
abbrev pub number_of : Register → ℕ
number_of R0 = 0
number_of R1 = 1
number_of R2 = 2
number_of R3 = 3
number_of R4 = 4
number_of R5 = 5
number_of R6 = 6
number_of R7 = 7

-- the register with a number from 0 to 7
abbrev pub numbered : ℕ → Register
numbered n =
    cond (n == 0) R0
    (cond (n == 1) R1
    (cond (n == 2) R2
    (cond (n == 3) R3
    (cond (n == 4) R4
    (cond (n == 5) R5
    (cond (n == 6) R6 R7))))))

-- the register that the low three bits name
abbrev pub register_of : ℕ → Register
register_of bits = numbered (bits % 8)

-- the word that a register holds
abbrev pub reading : List ℕ → Register → ℕ
reading ws r = slice_index ws (number_of r) % 65536

-- the words of a register file after a write, which register 0 drops
abbrev pub written : List ℕ → Register → ℕ → List ℕ
written ws r w = cond (number_of r == 0) ws (slice_set ws (number_of r) w)

-- the words of a register file that holds zeros
abbrev pub zeros : List ℕ
zeros = replicate 8 0
