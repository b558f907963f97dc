-- What an instruction asks of the machine, given its place and the registers. Assumes nothing.
use Rattle.std.specs.Prelude.{ℕ, ◌+◌, ◌-◌, ◌*◌, ◌%◌, cond, List, ◌==◌}
use Rattle.words.specs.declared.registers.Register.{Register}
use Rattle.words.specs.declared.instructions.Instruction.{Instruction}
use Rattle.words.specs.declared.instructions.Instruction.TheVariants.{Compute, Not, Jalr, In, Out, Addi, Shf, Lw, Sw, Lli, Lui, Branch}
use Rattle.words.specs.Registers.{number_of, reading, written}
use Rattle.words.specs.Immediates.{extended}
use Rattle.words.specs.Values.{wrapped, computed, passes, shifted}

-- an instruction's one demand on registers, place, memory and port
pub data Act : Type 0 where
  go : List ℕ → ℕ → Act  -- go on with these registers, at this place
  load : Register → ℕ → Act  -- the register receives the word at the address
  store : ℕ → ℕ → Act  -- the address receives the word
  take_word : Register → Act  -- the register receives the port's first word
  send_word : ℕ → Act  -- the port receives the word
  halt : Act

-- the place behind a word
abbrev pub behind : ℕ → ℕ
behind place = wrapped (place + 1)

-- each instruction's act
abbrev pub act : Instruction → ℕ → List ℕ → Act
act (Compute f o) place rs = go (written rs o.rd (computed f (reading rs o.rs1) (reading rs o.rs2))) (behind place)
act (Not o) place rs = go (written rs o.rd (65535 - reading rs o.rs1)) (behind place)
act (Jalr o) place rs = go (written rs o.rs1 (behind place)) (reading rs o.rd)
act (In rd) place rs = take_word rd
act (Out rd) place rs = cond (number_of rd == 0) halt (send_word (reading rs rd))
act (Addi o) place rs = go (written rs o.rd (wrapped (reading rs o.rs1 + extended o.imm))) (behind place)
act (Shf o) place rs = go (written rs o.rd (shifted (reading rs o.rs1) o.imm.bits)) (behind place)
act (Lw o) place rs = load o.rd (wrapped (reading rs o.rs1 + extended o.imm))
act (Sw o) place rs = store (wrapped (reading rs o.rs1 + extended o.imm)) (reading rs o.rd)
act (Lli o) place rs = go (written rs o.rd (extended o.imm)) (behind place)
act (Lui o) place rs = go (written rs o.rd (o.imm.bits * 256 + reading rs o.rd % 256)) (behind place)
act (Branch t o) place rs = go rs (cond (passes t (reading rs o.rd)) (wrapped (behind place + extended o.imm)) (behind place))
